use mathlib.Core.Path.{sym, ◌∙◌}
use native.Mathlib.Omega.{arith}
use Rattle.table.proofs.Inside.{counted}
use Rattle.table.proofs.Shaped.{shaped}
use Rattle.table.proofs.check_sparing.Goals as goal

pub shape_right-requires : goal.shape_right-requires
shape_right-requires c = (counted _ (sym c.counts_right.ensures ∙ c.if-not-counts_right.false)).few-nodes

pub binding_right-requires : goal.binding_right-requires
binding_right-requires c = omega (arith, (counted _ (sym c.counts_right.ensures ∙ c.if-not-counts_right.false)).few-publics, (counted _ (sym c.counts_right.ensures ∙ c.if-not-counts_right.false)).few-bounds)

pub scope_right-requires : goal.scope_right-requires
scope_right-requires c = shaped _ (sym c.counts_right.ensures ∙ c.if-not-counts_right.false) (sym c.kinds_right.ensures ∙ c.if-not-kinds_right.false) (sym c.ranges_right.ensures ∙ c.if-not-ranges_right.false) (sym c.shape_right.ensures ∙ c.if-not-shape_right.false)

pub calls_right-requires : goal.calls_right-requires
calls_right-requires c = ((counted _ (sym c.counts_right.ensures ∙ c.if-not-counts_right.false)).few-nodes, (counted _ (sym c.counts_right.ensures ∙ c.if-not-counts_right.false)).few-branches, (counted _ (sym c.counts_right.ensures ∙ c.if-not-counts_right.false)).few-definitions)
