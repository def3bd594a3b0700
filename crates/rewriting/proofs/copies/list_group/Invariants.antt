use Prim.Native.Nat.{◌+◌, ◌-◌, ◌≤◌}
use Rattle.lists.specs.Lists.{from}
use Rattle.process.proofs.Listed.{Left}
use Rattle.rewriting.specs.Inner.Copying.{grouped}
use Rattle.rewriting.proofs.copies.list_group.Given as goal

abbrev pub invariant-loop-i : goal.invariant-loop-i
invariant-loop-i l =
    Left (grouped l.of (from l.first (l.end - l.first)) l.group) l.initial.out l.at (grouped l.of (from l.i (l.end - l.i)) l.group) l.out l.next ×
    (l.next + l.first ≤ l.at + l.i) × (l.i ≤ l.first + l.end)
