use Rattle.std.proofs.Common.{Err}
use mathlib.Core.Path.{ap, ◌∙◌}
use native.Mathlib.Omega.{arith}
use Rattle.places.proofs.Outcomes.{measured-net, measured-refused, measured-short}
use Rattle.builder.proofs.Building.{refused-answer, laid-answer}
use Rattle.builder.proofs.build.Goals as goal

pub returns-in_err-totals : goal.returns-in_err-totals
returns-in_err-totals c =
    let m = c.measure in
    refused-answer _ _ _ (λ v e. measured-refused _ _ _ _ _ _ m.ensures v (c.in_err-totals.was ∙ ap Err e))
    (λ e. measured-short _ _ _ _ _ _ m.ensures (c.in_err-totals.was ∙ ap Err e) (omega (arith, m.auto.index)) (omega (arith, m.auto.pairs)))
    _ c.from_residual.ensures.1

pub write_image-requires : goal.write_image-requires
write_image-requires c = measured-net _ _ _ _ _ _ c.measure.ensures _ c.in_ok-totals.was

pub returns : goal.returns
returns c =
    let m = measured-net _ _ _ _ _ _ c.measure.ensures _ c.in_ok-totals.was in
    c.write_image.ensures ∙ laid-answer _ _ m.0.accepted
