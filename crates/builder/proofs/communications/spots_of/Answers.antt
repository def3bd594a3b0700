use Rattle.builder.proofs.Pairs.{Speaks, speaks}
use Rattle.builder.proofs.communications.spots_of.Goals.{Start}
use Rattle.builder.proofs.communications.spots_of.Goals as goal

known : (c : Start) → Speaks c.args.table.now c.args.p c.args.i c.args.j
known c = speaks c.args.table.now c.requires.0.accepted c.args.p c.requires.1 c.args.i c.args.j c.requires.2

pub spot-requires-4 : goal.spot-requires-4
spot-requires-4 c =
    let h = ((known (goal.at.spot-requires-4 c).Start)).gives in
    (c.requires.0, record { high = h.high; value = h.value }, c.requires.1.bound-row)

pub free_spot-requires : goal.free_spot-requires
free_spot-requires c = (c.requires.0, ((known (goal.at.free_spot-requires c).Start)).differs, c.requires.1.bound-row)
