use Rattle.process.proofs.Decoding.{new-there, call-there, silent-there}
use Rattle.std.proofs.Common.{rules}
use Rattle.process.specs.Steps.{is_step_open}
use Rattle.process.proofs.labels.is_open.Goals as goal

pub returns-then-node_is : goal.returns-then-node_is
unfolding is_step_open
returns-then-node_is c = search (rules, new-there, call-there, silent-there)

pub returns-else-node_is : goal.returns-else-node_is
unfolding is_step_open
returns-else-node_is c = search (rules, new-there, call-there, silent-there)

pub returns-then-branch_is : goal.returns-then-branch_is
unfolding is_step_open
returns-then-branch_is c = search (rules, new-there, call-there, silent-there)

pub returns-else-branch_is : goal.returns-else-branch_is
unfolding is_step_open
returns-else-branch_is c = search (rules, new-there, call-there, silent-there)

pub returns-then-node_is-2 : goal.returns-then-node_is-2
unfolding is_step_open
returns-then-node_is-2 c = search (rules, new-there, call-there, silent-there)

pub returns-else-node_is-2 : goal.returns-else-node_is-2
unfolding is_step_open
returns-else-node_is-2 c = search (rules, new-there, call-there, silent-there)
