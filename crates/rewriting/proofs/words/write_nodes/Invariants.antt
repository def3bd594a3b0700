use Prim.Native.Nat.{◌+◌, ◌-◌, ◌*◌, ◌≤◌}
use Rattle.lists.specs.Lists.{from, range, flat}
use Rattle.scheme.specs.Words.{nodes as node_count}
use Rattle.process.proofs.Listed.{Left}
use Rattle.rewriting.specs.Rewriting.{node_words}
use Rattle.rewriting.proofs.words.write_nodes.Given as goal

abbrev pub invariant-loop-n : goal.invariant-loop-n
invariant-loop-n l =
    Left (flat (node_words l.table) (range (node_count l.table))) l.initial.out l.at (flat (node_words l.table) (from l.n (l.nodes - l.n))) l.out l.next × (l.next ≤ l.at + 4 * l.n)
