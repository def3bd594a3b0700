use Rattle.std.proofs.Common.{rules}
use Rattle.lists.specs.Lists.{same}
use Rattle.process.proofs.threads.node_is.Goals as goal

pub returns-then-node-word : goal.returns-then-node-word
unfolding same
returns-then-node-word c = search rules

pub returns-else-node-word : goal.returns-else-node-word
unfolding same
returns-else-node-word c = search rules
