use Prim.Native.Nat.{◌-◌, ◌*◌, ◌≤◌}
use Rattle.lists.specs.Lists.{from, range, flat}
use Rattle.scheme.specs.Words.{nodes as node_count}
use Rattle.scheme.specs.Scheme.{scheme}
use Rattle.process.specs.StateWords.{state_of}
use Rattle.process.specs.Inner.Listed.{node_words}
use Rattle.process.proofs.Listed.{Left}
use Rattle.process.proofs.listing.list_nodes.Given as goal

abbrev pub invariant-loop-n : goal.invariant-loop-n
invariant-loop-n l =
    Left (flat (node_words (scheme l.known.table.now) (state_of (scheme l.known.table.now) l.state)) (range (node_count l.known.table.now))) l.initial.out 0
    (flat (node_words (scheme l.known.table.now) (state_of (scheme l.known.table.now) l.state)) (from l.n (l.nodes - l.n))) l.out l.next ×
    (l.next ≤ 196608 * l.n)
