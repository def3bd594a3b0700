-- 11, 13, then the one firing.
use Rattle.std.specs.Prelude.{⊤}
use Rattle.std.proofs.Common.{Result, sym, ◌∙◌}
use Rattle.net.specs.declared.Cause.{Cause}
use Rattle.net.specs.Answers.{firing_outcome}
use Rattle.net.proofs.Images.{header}
use Rattle.net.proofs.Lent.{both_right, exit}
use Rattle.net.proofs.Steps.{marking-length, fire_refused, fire-as}
use Rattle.net.proofs.fire.Goals as goal

pub returns-in_err-check : goal.returns-in_err-check
returns-in_err-check c =
    exit (λ (r : Result ⊤ Cause). firing_outcome r c.args.marking.now) _ _ _ c.from_residual.ensures.1 (fire_refused _ _ _ _ c.in_err-check.ensures)

pub fire_one-requires : goal.fire_one-requires
fire_one-requires c = let r = both_right _ _ (sym c.in_ok-check.ensures) in (header _ r.header, marking-length _ _ r.marking)

pub returns : goal.returns
returns c = let r = both_right _ _ (sym c.in_ok-check.ensures) in c.fire_one.ensures ∙ sym (fire-as _ _ _ r.header r.marking)
