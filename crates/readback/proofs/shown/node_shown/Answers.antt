use mathlib.Core.Path.{sym, ◌∙◌}
use Rattle.readback.proofs.Showing.{node-own, node-other, node-called}
use Rattle.readback.proofs.shown.node_shown.Goals.{else-k-ne0-via-then-k-ne0+else-field3-eq3, else-k-ne0-via-else-k-ne0}
use Rattle.readback.proofs.shown.node_shown.Goals as goal

pub returns-then-field3-eq3 : goal.returns-then-field3-eq3
returns-then-field3-eq3 c =
    node-called _ _ c.requires _ _ _ c.if-k-ne0.true (sym
    c.field3.ensures.is ∙ c.if-field3-eq3.true) c.field3-then-field3-eq3.ensures.is c.field4.ensures.is
    c.field4.ensures.small

pub returns : goal.returns
returns c =
    elim c.else-k-ne0.branch [
      | else-k-ne0-via-then-k-ne0+else-field3-eq3 w ↦ node-other _ _ c.requires _ (λ e. w.if-field3-eq3.false (w.field3.ensures.is ∙ e))
      | else-k-ne0-via-else-k-ne0 w ↦ node-own _ _ c.requires _ w.if-k-ne0.false
    ]
