use Rattle.std.proofs.Common.{sym, ap, ◌∙◌, arith}
use Rattle.table.specs.Answer.{cause_of}
use Rattle.places.proofs.Meeting.{pairs-filled}
use Rattle.places.proofs.Outcomes.{cause-first, no_room, plan-ready, measure-net, measure-refused}
use Rattle.places.proofs.WholeSums.{whole-few, net-sums}
use Rattle.places.proofs.measure.Goals as goal

pub returns-in_err-check : goal.returns-in_err-check
returns-in_err-check c = cause-first _ _ _ _ c.in_err-check.ensures _ c.from_residual.ensures.1

pub returns-then-pairs-lt-PAIRS : goal.returns-then-pairs-lt-PAIRS
returns-then-pairs-lt-PAIRS c = no_room _ _ _ (sym c.check.ensures ∙ ap cause_of c.in_ok-check.was) c.if-pairs-lt-PAIRS.true

pub returns-in_err-plan : goal.returns-in_err-plan
returns-in_err-plan c = measure-refused _ _ _ _ _ c.plan.ensures _ c.in_err-plan.was _ c.from_residual-in_err-plan.ensures.1

pub fill_pairs-requires : goal.fill_pairs-requires
fill_pairs-requires c =
    (plan-ready _ _ _ _ c.plan.ensures _ c.in_ok-plan.was, omega (arith, c.if-pairs-lt-PAIRS.false))

pub totals_of-requires : goal.totals_of-requires
totals_of-requires c =
    let l = plan-ready _ _ _ _ c.plan.ensures _ c.in_ok-plan.was in
    (l, pairs-filled _ _ l _ _ c.if-pairs-lt-PAIRS.false c.fill_pairs.ensures, whole-few _ l.accepted)

pub returns : goal.returns
returns c =
    let l = plan-ready _ _ _ _ c.plan.ensures _ c.in_ok-plan.was in
    measure-net _ _ _ _ _ c.plan.ensures _ c.in_ok-plan.was c.if-pairs-lt-PAIRS.false _ c.fill_pairs.ensures c.totals_of.result
    (c.totals_of.ensures ∙ net-sums _ l.accepted)
