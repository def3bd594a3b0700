use Rattle.std.proofs.Common.{rules}
use Rattle.lists.specs.Lists.{same}
use Rattle.process.proofs.threads.branch_is.Goals as goal

pub returns-then-branch-word : goal.returns-then-branch-word
unfolding same
returns-then-branch-word c = search rules

pub returns-else-branch-word : goal.returns-else-branch-word
unfolding same
returns-else-branch-word c = search rules
