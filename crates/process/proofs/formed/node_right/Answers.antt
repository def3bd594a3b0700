use Rattle.std.proofs.Common.{rules}
use Rattle.scheme.specs.Scheme.{scheme}
use Rattle.process.specs.StateWords.{state_of}
use Rattle.lists.specs.Lists.{same}
use Rattle.process.proofs.formed.node_right.Goals as goal

pub returns-then-node-word : goal.returns-then-node-word
unfolding scheme state_of same
returns-then-node-word c = search rules

pub returns-else-node-word : goal.returns-else-node-word
unfolding scheme state_of same
returns-else-node-word c = search rules
