use mathlib.Core.Path.{◌≡◌}
use Prim.Native.Nat.{ℕ, ◌+◌, ◌-◌, ◌*◌, ◌≤◌, ◌<◌}
use lib.Seq.{slice}
use Rattle.lists.specs.Lists.{word, from, flat}
use Rattle.process.proofs.Listed.{Left}
use Rattle.rewriting.specs.Inner.Copying.{grouped}
use Rattle.rewriting.proofs.copies.list_groups.Given as goal

abbrev pub invariant-loop-k : goal.invariant-loop-k
invariant-loop-k l =
    Left (flat (grouped l.of (from l.first (l.end - l.first))) (slice 0 l.groups l.initial.out)) l.initial.out l.at (flat (grouped l.of (from l.first (l.end - l.first))) (slice l.k l.groups l.initial.out))
    l.out l.next × (l.next ≤ l.at + 131072 * l.k) × (l.at ≤ l.next) × ((j : ℕ) → j < l.at → word l.out j ≡ word l.initial.out j)
