use Rattle.std.proofs.Common.{sym, refl, ◌∙◌}
use Rattle.lists.specs.Lists.{same}
use Rattle.lists.proofs.Tests.{same-yes, same-no}
use Rattle.summary.proofs.lengths_right.Goals as goal

pub returns-then-counts-transitions : goal.returns-then-counts-transitions
unfolding same
returns-then-counts-transitions c = sym (rw (same-yes _ _ c.if-counts-transitions.true) refl)

pub returns-else-counts-transitions : goal.returns-else-counts-transitions
unfolding same
returns-else-counts-transitions c = let e = same-no _ _ c.if-counts-transitions.false in e ∙ sym (rw e refl)
