use Rattle.std.proofs.Common.{rules}
use Rattle.lists.specs.Lists.{same}
use Rattle.process.proofs.values.one_value.Goals as goal

pub returns-then-first-ne65535 : goal.returns-then-first-ne65535
unfolding same
returns-then-first-ne65535 c = search rules

pub returns-else-first-ne65535 : goal.returns-else-first-ne65535
unfolding same
returns-else-first-ne65535 c = search rules
