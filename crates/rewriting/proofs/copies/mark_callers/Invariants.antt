use mathlib.Core.Path.{◌≡◌}
use Prim.Native.Nat.{ℕ, ◌<◌}
use lib.ListN.{length}
use Rattle.lists.specs.Lists.{pick, word, range}
use Rattle.scheme.specs.Words.{nodes as node_count}
use Rattle.scheme.specs.Index.{definitions_in}
use Rattle.rewriting.specs.Inner.Copying.{called_by_itself}
use Rattle.rewriting.proofs.copies.mark_callers.Given as goal

abbrev pub invariant-loop-n : goal.invariant-loop-n
invariant-loop-n l =
    (l.nodes ≡ node_count l.table) × (length l.marks ≡ length l.initial.marks) ×
    ((d : ℕ) → d < length l.initial.marks → word l.marks d ≡ pick (called_by_itself l.table (definitions_in l.index) (range l.n) d) 1 (word l.initial.marks d))
