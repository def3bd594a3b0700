use Rattle.std.proofs.Common.{true, false, ◌∙◌, arith}
use Rattle.scheme.specs.Scheme.{scheme}
use Rattle.table.proofs.Accepted.{accepted}
use Rattle.places.proofs.Settled.{going_start, going_on, going_end, sum-rises}
use Rattle.places.proofs.rounds.settle.Goals as goal

pub loop-init : goal.loop-init
loop-init c =
    let a = c.args in going_start (scheme a.table.now) a.words.now a.ears.now c.requires.1 c.requires.2

pub loop-smaller : goal.loop-smaller
loop-smaller c =
    let r = c.loop-test.ensures in
    let l = c.loop in
    sum-rises (scheme c.args.table.now) l.words c.round.new.words r.0 (r.0.size ∙ l.invariant.size) (λ x. omega (arith, c.type_inv.words x))

pub returns : goal.returns
returns c =
    let l = c.loop in
    let S = scheme c.args.table.now in
    let r = c.loop-test.ensures in
    let n = c.round.new in
    going_end S (accepted c.args.table.now c.requires.0.accepted) n.words n.ears (going_on S l.words l.ears n.words n.ears true false l.invariant r.0 r.1)
    (λ x. omega (arith, c.type_inv.words x))
