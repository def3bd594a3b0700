use Prim.Native.Nat.{◌-◌, ◌≤◌}
use Rattle.lists.specs.Lists.{from, range, flat}
use Rattle.scheme.specs.Words.{branches as branch_count_of}
use Rattle.scheme.specs.Scheme.{scheme}
use Rattle.process.specs.StateWords.{state_of}
use Rattle.process.specs.Inner.Listed.{standing}
use Rattle.process.proofs.Listed.{Left}
use Rattle.process.proofs.listing.gather.Given as goal

abbrev pub invariant-loop-b : goal.invariant-loop-b
invariant-loop-b l =
    Left (flat (standing l.known.table.now (state_of (scheme l.known.table.now) l.state) l.kind) (range (branch_count_of l.known.table.now))) l.initial.out 0
    (flat (standing l.known.table.now (state_of (scheme l.known.table.now) l.state) l.kind) (from l.b (l.branches - l.b))) l.out l.next ×
    (l.next ≤ l.b)
