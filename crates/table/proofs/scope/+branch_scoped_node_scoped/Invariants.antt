-- Measure: twice the nodes left above, one less at a branch. Loop: the branches left decide.
use Rattle.std.proofs.Common.{◌≡◌, ◌-◌, ◌*◌}
use Rattle.lists.specs.Lists.{from, every}
use Rattle.scheme.specs.Words.{nodes}
use Rattle.table.specs.Inner.Scope.{branch_body_scoped}
use Rattle.table.proofs.scope.+branch_scoped_node_scoped.Given as goal

abbrev pub decreases-branch_scoped : goal.decreases-branch_scoped
decreases-branch_scoped l = 2 * (nodes l.table.now - l.node) - 1

abbrev pub decreases-node_scoped : goal.decreases-node_scoped
decreases-node_scoped l = 2 * (nodes l.table.now - l.node)

abbrev pub invariant-node_scoped-loop-b : goal.invariant-node_scoped-loop-b
invariant-node_scoped-loop-b l =
    every (branch_body_scoped l.table l.node) (from l.first (l.b-end - l.first))
    ≡ every (branch_body_scoped l.table l.node) (from l.b (l.b-end - l.b))
