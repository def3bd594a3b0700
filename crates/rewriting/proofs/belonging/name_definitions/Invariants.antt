use mathlib.Core.Path.{◌≡◌}
use Prim.Native.Nat.{ℕ, ◌≤◌, ◌<◌}
use lib.ListN.{length}
use Rattle.lists.specs.Lists.{word}
use Rattle.scheme.specs.Words.{publics as public_count, names}
use Rattle.rewriting.specs.Rewriting.{name_definition_of}
use Rattle.rewriting.proofs.belonging.name_definitions.Given as goal

abbrev pub invariant-loop-x : goal.invariant-loop-x
invariant-loop-x l =
    (length l.out ≡ 64) × (l.end ≡ names l.table) ×
    ((y : ℕ) → public_count l.table ≤ y → y < l.x → word l.out y ≡ name_definition_of l.table y)
