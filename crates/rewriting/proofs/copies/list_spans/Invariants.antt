use mathlib.Core.Path.{◌≡◌}
use Prim.Native.Nat.{ℕ, ◌+◌, ◌*◌, ◌≤◌, ◌<◌}
use lib.Seq.{slice}
use Rattle.lists.specs.Lists.{word, flat}
use Rattle.scheme.specs.Spans.{span_of}
use Rattle.process.proofs.Listed.{Left}
use Rattle.rewriting.proofs.copies.list_spans.Given as goal

abbrev pub invariant-loop-k : goal.invariant-loop-k
invariant-loop-k l =
    Left (flat (span_of l.table l.source) (slice 512 (512 + l.nodes) l.initial.out)) l.initial.out l.at (flat (span_of l.table l.source) (slice (512 + l.k) (512 + l.nodes) l.initial.out))
    l.out l.next × (l.next ≤ l.at + 65536 * l.k) × (l.at ≤ l.next) × ((j : ℕ) → j < l.at → word l.out j ≡ word l.initial.out j)
