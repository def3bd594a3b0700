use Rattle.std.proofs.Common.{rules}
use Rattle.scheme.specs.Scheme.{scheme}
use Rattle.lists.specs.Lists.{same}
use Rattle.process.proofs.formed.is_restricted.Goals as goal

pub returns-then-name-publics : goal.returns-then-name-publics
unfolding scheme same
returns-then-name-publics c = search rules

pub returns-else-name-publics : goal.returns-else-name-publics
unfolding scheme same
returns-else-name-publics c = search rules
