use mathlib.Core.Path.{sym, ◌∙◌}
use Rattle.scheme.proofs.Tally.{tally-more, tally-done}
use Rattle.scheme.proofs.spans.tally_span.Goals as goal

pub loop-x-preserved : goal.loop-x-preserved
loop-x-preserved c = (c.loop-x.invariant.0 ∙ rw c.tally.ensures (tally-more _ _ _ c.loop-x-test.true), c.tally.auto.counts ∙ c.loop-x.invariant.1)

pub returns : goal.returns
returns c = sym (c.loop-x.invariant.0 ∙ tally-done _ _ _ c.loop-x-test.false)
