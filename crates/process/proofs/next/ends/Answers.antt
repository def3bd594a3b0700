use Rattle.std.proofs.Common.{rules}
use Rattle.lists.specs.Lists.{same}
use Rattle.process.proofs.next.ends.Goals as goal

pub returns-then-is_stop : goal.returns-then-is_stop
unfolding same
returns-then-is_stop c = search rules
