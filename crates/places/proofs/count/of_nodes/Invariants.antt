use Rattle.std.proofs.Common.{◌≡◌, ◌-◌}
use Rattle.lists.specs.Lists.{from, range}
use Rattle.scheme.specs.Words.{nodes}
use Rattle.places.specs.Answers.{sums_of}
use Rattle.places.specs.Inner.Counting.{over, node_sums}
use Rattle.places.proofs.count.of_nodes.Given as goal

abbrev pub invariant-loop-n : goal.invariant-loop-n
invariant-loop-n l = over (node_sums l.table) (sums_of l.initial.q) (range (nodes l.table)) ≡ over (node_sums l.table) (sums_of l.q) (from l.n (nodes l.table - l.n))
