use mathlib.Core.Path.{◌≡◌}
use mathlib.Core.Logic.{◌⊎◌}
use Prim.Native.Nat.{ℕ, ◌+◌, ◌≤◌, ◌<◌}
use lib.ListN.{length, drop}
use Rattle.lists.specs.Lists.{word}
use Rattle.process.specs.StateWords.{place}
use Rattle.rewriting.proofs.numbering.number.Given as goal

abbrev pub invariant-loop-i : goal.invariant-loop-i
invariant-loop-i l =
    (length l.out ≡ length l.initial.out) × ((x : ℕ) → x < 257 → word l.out (l.at + x) ≡ l.i + place x (drop l.i l.originals)) ×
    ((k : ℕ) → (k < l.at) ⊎ (l.at + 257 ≤ k) → word l.out k ≡ word l.initial.out k)
