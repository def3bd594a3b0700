use Rattle.std.proofs.Common.{rules}
use Rattle.scheme.specs.Scheme.{scheme}
use Rattle.lists.specs.Lists.{same}
use Rattle.process.proofs.formed.restricted_right.Goals as goal

pub returns-then-word-value_of : goal.returns-then-word-value_of
unfolding scheme same
returns-then-word-value_of c = search rules

pub returns-else-word-value_of : goal.returns-else-word-value_of
unfolding scheme same
returns-else-word-value_of c = search rules
