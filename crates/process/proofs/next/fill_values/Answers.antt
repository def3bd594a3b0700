use Prim.Native.Nat.{◌<◌}
use native.Mathlib.Omega.{arith}
use lib.ListN.{length}
use Rattle.process.proofs.Taking.{few-bounds}
use Rattle.process.proofs.Numbering.{fill_none, fill_more}
use Rattle.process.proofs.next.fill_values.Goals as goal

pub loop-i-init : goal.loop-i-init
loop-i-init c = fill_none _ _

pub loop-i-preserved : goal.loop-i-preserved
loop-i-preserved c =
    let l = c.loop-i in
    let p = c.requires in
    let k : l.i < length l.values =
    omega (arith, l.auto.values, p.1, c.word-bounds.ensures.is, few-bounds _ c.args.known.now.known.accepted, c.loop-i-test.true) in
    rw c.store.ensures (fill_more _ _ l.i _ l.values k c.value_after.ensures.is l.invariant)
