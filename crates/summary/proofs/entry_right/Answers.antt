use Rattle.lists.specs.Lists.{same}
use Rattle.summary.proofs.Entries.{entry_told, entry-off}
use Rattle.summary.proofs.entry_right.Goals as goal

pub returns-then-counts-transition : goal.returns-then-counts-transition
unfolding same
returns-then-counts-transition c = entry_told _ _ _ _ _ c.missing_at-count.ensures c.if-counts-transition.true c.is_in.ensures

pub returns-else-counts-transition : goal.returns-else-counts-transition
unfolding same
returns-else-counts-transition c = entry-off _ _ _ _ c.missing_at-count.ensures c.if-counts-transition.false
