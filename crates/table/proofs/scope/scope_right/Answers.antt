use mathlib.Core.Path.{sym, ◌∙◌}
use Rattle.lists.proofs.Ranges.{every_more, every-stop, every-done}
use Rattle.table.proofs.Bodies.{scope-bodies}
use Rattle.table.proofs.scope.scope_right.Goals as goal

pub returns-then-not-definition_scoped : goal.returns-then-not-definition_scoped
returns-then-not-definition_scoped c = sym (sym (scope-bodies _ c.requires) ∙ rw (← c.word-d-end.ensures.is) (c.loop-d.invariant ∙ every-stop _ _ _ c.loop-d-test.true (sym c.definition_scoped.ensures ∙ c.if-not-definition_scoped.true)))

pub loop-d-preserved : goal.loop-d-preserved
loop-d-preserved c = c.loop-d.invariant ∙ every_more _ _ _ c.loop-d-test.true (sym c.definition_scoped.ensures ∙ c.if-not-definition_scoped.false)

pub returns : goal.returns
returns c = sym (sym (scope-bodies _ c.requires) ∙ rw (← c.word-d-end.ensures.is) (c.loop-d.invariant ∙ every-done _ _ _ c.loop-d-test.false))
