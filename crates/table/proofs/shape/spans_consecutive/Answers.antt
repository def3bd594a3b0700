use mathlib.Core.Path.{sym, ◌∙◌}
use native.Mathlib.Omega.{arith}
use Rattle.lists.specs.Lists.{same}
use Rattle.table.proofs.SpanLists.{skip-empty, take_range, break-range, end-ranges}
use Rattle.table.proofs.shape.spans_consecutive.Goals as goal

pub loop-n-preserved-then-size-eq0 : goal.loop-n-preserved-then-size-eq0
loop-n-preserved-then-size-eq0 c = (c.loop-n.invariant.0 ∙ skip-empty _ _ _ _ _ _ _ c.loop-n-test.true (sym c.span_count-size.ensures.is ∙ c.if-size-eq0.true), omega arith)

pub returns-then-span_first-a : goal.returns-then-span_first-a
returns-then-span_first-a c = rw (← c.word-n-end.ensures.is) (sym (c.loop-n.invariant.0 ∙ break-range _ _ _ _ _ _ _ c.loop-n-test.true (rw (← c.span_count-size.ensures.is) c.if-size-eq0.false) (rw (← c.span_first.ensures.is) c.if-span_first-a.true)))

pub loop-n-preserved : goal.loop-n-preserved
loop-n-preserved c = (c.loop-n.invariant.0 ∙ rw c.span_count-size.ensures.is (take_range _ _ _ _ _ _ _ c.loop-n-test.true (rw (← c.span_count-size.ensures.is) c.if-size-eq0.false) (sym c.span_first.ensures.is ∙ c.if-span_first-a.false)), omega arith)

pub returns : goal.returns
unfolding same
returns c = rw (← c.word-n-end.ensures.is) (sym (c.loop-n.invariant.0 ∙ end-ranges _ _ _ _ _ _ _ c.loop-n-test.false))
