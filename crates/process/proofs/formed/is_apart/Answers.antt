use Rattle.std.proofs.Common.{rules}
use Rattle.lists.specs.Lists.{same}
use Rattle.process.proofs.formed.is_apart.Goals as goal

pub returns-then-name-other : goal.returns-then-name-other
unfolding same
returns-then-name-other c = search rules

pub returns-else-name-other : goal.returns-else-name-other
unfolding same
returns-else-name-other c = search rules
