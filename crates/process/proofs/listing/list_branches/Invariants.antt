use Prim.Native.Nat.{◌+◌, ◌-◌, ◌*◌, ◌≤◌}
use Rattle.lists.specs.Lists.{from, flat}
use Rattle.scheme.specs.Scheme.{scheme}
use Rattle.process.specs.Inner.Listed.{silent_words}
use Rattle.process.proofs.Listed.{Left}
use Rattle.process.proofs.listing.list_branches.Given as goal

abbrev pub invariant-loop-b : goal.invariant-loop-b
invariant-loop-b l =
    Left (flat (silent_words (scheme l.table)) (from l.first l.count)) l.initial.out l.at (flat (silent_words (scheme l.table)) (from l.b (l.end - l.b))) l.out l.next ×
    (l.next + 3 * l.first ≤ l.at + 3 * l.b)
