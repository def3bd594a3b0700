use Rattle.std.proofs.Common.{Err}
use mathlib.Core.Path.{refl, ap, ◌∙◌}
use native.Mathlib.Omega.{arith}
use Rattle.places.proofs.Outcomes.{measured-net, measured-refused, measured-short}
use Rattle.places.proofs.Plans.{few-tokens}
use Rattle.places.proofs.WholeSums.{few-totals, words_are}
use Rattle.builder.proofs.Building.{size-answer, no_size}
use Rattle.builder.proofs.size.Goals as goal

pub length_of-requires : goal.length_of-requires
length_of-requires c =
    let m = measured-net _ _ _ _ _ _ c.measure.ensures _ c.in-Ok.is in
    (few-tokens _ _ m.0, few-totals _ m.0.accepted _ m.0 _ m.1)

pub returns-in-Ok : goal.returns-in-Ok
returns-in-Ok c =
    let m = measured-net _ _ _ _ _ _ c.measure.ensures _ c.in-Ok.is in
    size-answer _ _ m.0.accepted (c.length_of.ensures ∙ words_are _ m.0.accepted _ m.0 _ m.1 _ refl)

pub returns-in-Err-Table : goal.returns-in-Err-Table
returns-in-Err-Table c =
    let e = c.in-Err-Table in
    let k = measured-refused _ _ _ _ _ _ c.measure.ensures _ (e.is ∙ ap Err e.field-0-is) in
    rw e.field-0-is (no_size _ _ k.0 k.1)

pub unreachable-requires : goal.unreachable-requires
unreachable-requires c =
    let m = c.measure in
    let e = c.in-Err-NoRoom in
    measured-short _ _ _ _ _ _ m.ensures (e.is ∙ ap Err e.field-0-is) (omega (arith, c.measure.auto.index)) (omega (arith, c.measure.auto.pairs))
