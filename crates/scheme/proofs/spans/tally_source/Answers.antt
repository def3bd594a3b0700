use mathlib.Core.Path.{sym, ◌∙◌}
use Rattle.scheme.proofs.Tally.{tally-flat-more, tally-flat-done}
use Rattle.scheme.proofs.SpanLists.{span-is}
use Rattle.scheme.proofs.spans.tally_source.Goals as goal

pub loop-i-preserved : goal.loop-i-preserved
loop-i-preserved c = (c.loop-i.invariant.0 ∙ rw (c.tally_span.ensures, span-is c.args.table.now c.args.source c.loop-i.i _ _ c.span_first-first.ensures c.span_count.ensures) (tally-flat-more _ _ _ _ c.loop-i-test.true), c.tally_span.auto.counts ∙ c.loop-i.invariant.1)

pub returns : goal.returns
returns c = sym (c.loop-i.invariant.0 ∙ tally-flat-done _ _ _ _ c.loop-i-test.false)
