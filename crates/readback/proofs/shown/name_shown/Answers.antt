use mathlib.Core.Path.{sym, ◌∙◌}
use Rattle.readback.proofs.Showing.{name-stop, name-other, name-own}
use Rattle.readback.proofs.shown.name_shown.Goals.{then-kind-ne3-via-then-kind-ne3, then-kind-ne3-via-else-kind-ne3+then-k-eq0}
use Rattle.readback.proofs.shown.name_shown.Goals as goal

pub returns-then-kind-eq-STOP : goal.returns-then-kind-eq-STOP
returns-then-kind-eq-STOP c = name-stop _ _ c.requires.0 _ _ (sym c.field3-kind.ensures.is ∙ c.if-kind-eq-STOP.true)

pub returns-then-kind-ne3 : goal.returns-then-kind-ne3
returns-then-kind-ne3 c =
    let kind = sym c.field3-kind.ensures.is in
    elim c.then-kind-ne3.branch [
      | then-kind-ne3-via-then-kind-ne3 w ↦
          name-other _ _ c.requires.0 _ _ c.requires.1 (λ e. c.if-kind-eq-STOP.false (sym kind ∙ e)) (λ e. w.if-kind-ne3.true (sym kind ∙ e))
      | then-kind-ne3-via-else-kind-ne3+then-k-eq0 w ↦ name-own _ _ c.requires.0 _ _ c.requires.1 (kind ∙ w.if-kind-ne3.false) w.if-k-eq0.true
    ]
