-- Laws of the words that bytes make.
use mathlib.Core.Path.{◌≡◌, refl}
use mathlib.Core.List.{List, [], ◌∷◌}
use Prim.Native.Nat.{ℕ, ◌+◌, ◌*◌, ◌/◌, ◌≤◌, ◌<◌}
use native.Mathlib.Numerals.{add-one}
use native.Mathlib.Omega.{arith}
use lib.ListN.{length, get_or, drop, set, length-drop}
use lib.Seq.{sets}
use Rattle.lists.proofs.Slices.{drop-step}
use Rattle.print.specs.Words.{words_of}

pub words_count : (bytes : List ℕ) → length (words_of bytes) ≡ length bytes / 2
unfolding words_of
words_count [] = refl
words_count (low ∷ []) = refl
words_count (low ∷ high ∷ rest) = omega (arith, words_count rest)

words-few : (bytes : List ℕ) → length bytes ≤ 1 → words_of bytes ≡ []
unfolding words_of
words-few [] h = refl
words-few (low ∷ []) h = refl
words-few (low ∷ high ∷ rest) h = absurd (omega arith)

pub words_more : (out bytes : List ℕ) (i : ℕ) → i < length bytes / 2
    → sets out i (words_of (drop (2 * i) bytes))
    ≡ sets (set out i (get_or bytes (2 * i) 0 + 256 * get_or bytes (2 * i + 1) 0)) (i + 1) (words_of (drop (2 * (i + 1)) bytes))
unfolding words_of
words_more out bytes i h =
    let k : 2 * (i + 1) ≡ 2 * i + 1 + 1 = omega arith in
    rw (k, drop-step bytes (2 * i) (omega arith), drop-step bytes (2 * i + 1) (omega arith), add-one i)

pub words-done : (out bytes : List ℕ) (i : ℕ) → length bytes / 2 ≤ i → sets out i (words_of (drop (2 * i) bytes)) ≡ out
words-done out bytes i h = rw (words-few (drop (2 * i) bytes) (simp length-drop (omega arith)))
