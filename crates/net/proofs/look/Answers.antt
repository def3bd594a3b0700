-- 11, 13, then the one look.
use Rattle.std.proofs.Common.{ℕ, Result, sym, ◌∙◌}
use Rattle.net.specs.declared.Refusal.{Refusal}
use Rattle.net.specs.Answers.{look_outcome}
use Rattle.net.proofs.Images.{header}
use Rattle.net.proofs.Lent.{both_right, exit}
use Rattle.net.proofs.Steps.{marking-length}
use Rattle.net.proofs.Looks.{look_refused, look-as}
use Rattle.net.proofs.look.Goals as goal

pub returns-in_err-check : goal.returns-in_err-check
returns-in_err-check c =
    exit (λ (r : Result ℕ Refusal). look_outcome r c.args.next.now) _ _ _ c.from_residual.ensures.1 (look_refused _ _ _ _ _ c.in_err-check.ensures)

pub look_one-requires : goal.look_one-requires
look_one-requires c = let r = both_right _ _ (sym c.in_ok-check.ensures) in (header _ r.header, marking-length _ _ r.marking)

pub returns : goal.returns
returns c = c.look_one.ensures ∙ sym (look-as _ _ _ _ (both_right _ _ (sym c.in_ok-check.ensures)))
