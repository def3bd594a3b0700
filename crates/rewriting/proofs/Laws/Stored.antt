-- Words after a run of stores, parts of such words, and runs of stores turn by turn.
use mathlib.Core.Path.{◌≡◌, refl, sym, ap, ◌∙◌}
use mathlib.Core.Bool.{Bool, true, false}
use mathlib.Core.List.{List, [], ◌∷◌, ◌++◌, map, append_assoc}
use Prim.Native.Nat.{ℕ, ◌+◌, ◌-◌, ◌≤◌, ◌<◌}
use native.Mathlib.Omega.{arith}
use native.Mathlib.Numerals.{add-one}
use lib.ListN.{length, set, take, drop, length-set, get_or}
use Rattle.std.specs.List.{AllByRecursion}
use Rattle.std.proofs.lemmas.List.Elements.{All-from_recursion}
use lib.Seq.{sets, sets-eq, slice, drop-cons, ext_get_or, length-slice, length-take-le}
use Rattle.lists.specs.Lists.{pick, same, word, from, range, keep, flat}
use Rattle.lists.proofs.Ranges.{from_more, from-done}
use Rattle.lists.proofs.Slices.{drop-step, drop-none, slice-between, slice-word}
use Rattle.lists.proofs.Stores.{word_low}
use Rattle.rewriting.proofs.Runs.{map-from}
use Rattle.process.specs.Inner.Listed.{Listed}
use Rattle.process.proofs.Listed.{Left, left-more, one-listed, slice-more, slice-done}
use Rattle.rewriting.specs.Inner.Copying.{grouped}

-- ---- words after a run of stores

pub set_long : (l after : List ℕ) (i v : ℕ) → after ≡ set l i v → length after ≡ length l
set_long l after i v e = ap length e ∙ length-set l i v

-- what stands below a run stays
pub listed-low : (most : ℕ) (words out : List ℕ) (i : ℕ) (after : List ℕ) (r : ℕ) → Listed most words out i after r → (k : ℕ) → k < i
    → word after k ≡ word out k
listed-low most words out i after r l k h = ap (λ (x : List ℕ). word x k) l.written ∙ word_low out i words k h

-- ---- parts

pub slice-alike : (l m : List ℕ) (i e : ℕ) → e ≤ length l → e ≤ length m → ((k : ℕ) → i ≤ k → k < e → word l k ≡ word m k) → slice i e l ≡ slice i e m
slice-alike l m i e p q h =
    ext_get_or 0 (slice i e l) (slice i e m) (length-slice i e l p ∙ sym (length-slice i e m q))
    (λ k u.
    let v : k < e - i = rw (length-slice i e l p) at u in
    slice-word l i e k v ∙ h (i + k) (omega arith) (omega arith) ∙ sym (slice-word m i e k v))

-- a part that was just stored
pub slice-stored : (l : List ℕ) (i : ℕ) (ws : List ℕ) (e : ℕ) → e ≡ i + length ws → e ≤ length l → slice i e (sets l i ws) ≡ ws
slice-stored l i ws e q h =
    let p : i + length ws ≤ length l = omega arith in
    ap (slice i e) (sets-eq ws l i p ∙ append_assoc (take i l) ws (drop (i + length ws) l))
    ∙ slice-between (take i l) ws (drop (i + length ws) l) i e (length-take-le i l (omega arith)) (sym q)

-- ---- numbers that belong to a group, one by one

module _ (of : List ℕ) (group : ℕ) where
  pub grouped-more : (i e : ℕ) → i < e
      → grouped of (from i (e - i)) group ≡ pick (same (word of i) group) (i ∷ []) [] ++ grouped of (from (i + 1) (e - (i + 1))) group
  unfolding grouped keep
  grouped-more i e h = rw (from_more i e h) (go (same (word of i) group) (keep (λ j. same (word of j) group) (from (i + 1) (e - (i + 1)))))
    where
      go : (b : Bool) (rest : List ℕ) → pick b (i ∷ rest) rest ≡ pick b (i ∷ []) [] ++ rest
      go true rest = refl
      go false rest = refl

  pub grouped-done : (i e : ℕ) → e ≤ i → grouped of (from i (e - i)) group ≡ []
  unfolding grouped keep
  grouped-done i e h = rw (from-done i e h)

map-comp : (g f : ℕ → ℕ) (xs : List ℕ) → map g (map f xs) ≡ map (λ x. g (f x)) xs
map-comp g f [] = refl
map-comp g f (x ∷ xs) = ap (λ (l : List ℕ). g (f x) ∷ l) (map-comp g f xs)

-- ---- the images of the numbers below e, stored from place `at` on

module _ (f : ℕ → ℕ) (words₀ out₀ : List ℕ) (i₀ at e : ℕ) where
  pub left-image : (out after : List ℕ) (i : ℕ) → i < e → Left words₀ out₀ i₀ (map f (from i (e - i))) out (at + i) → after ≡ set out (at + i) (f i)
      → Left words₀ out₀ i₀ (map f (from (i + 1) (e - (i + 1)))) after (at + (i + 1))
  left-image out after i h L s =
      let q : at + i + 1 ≡ at + (i + 1) = omega arith in
      let M : Left words₀ out₀ i₀ (map f (from (i + 1) (e - (i + 1)))) after (at + i + 1) =
      left-more words₀ out₀ i₀ (map f (from i (e - i))) out (at + i) L 1 (f i ∷ []) (map f (from (i + 1) (e - (i + 1)))) after (at + i + 1)
      (rw (from_more i e h)) (one-listed out after (at + i) (f i) s) in
      rw q at M

pub images-none : (f : ℕ → ℕ) (i e : ℕ) → e ≤ i → map f (from i (e - i)) ≡ []
images-none f i e h = rw (from-done i e h)

pub numbers-from : (first n : ℕ) → map (λ k. first + k) (range n) ≡ from first n
numbers-from first n = map-from (λ k. first + k) 0 first n (λ i h. omega arith)

pub words-from : (w : List ℕ) (first n : ℕ) → map (λ k. word w (first + k)) (range n) ≡ map (word w) (from first n)
words-from w first n = sym (map-comp (word w) (λ k. first + k) (range n)) ∙ ap (map (word w)) (numbers-from first n)

-- ---- a run over `count` words from place `first` on

module _ (f : ℕ → List ℕ) (l : List ℕ) (first count : ℕ) where
  pub row_more : (k v : ℕ) → v ≡ word l (first + k) → k < count → first + count ≤ length l
      → flat f (slice (first + k) (first + count) l) ≡ f v ++ flat f (slice (first + (k + 1)) (first + count) l)
  row_more k v e h r =
      let q : first + k + 1 ≡ first + (k + 1) = omega arith in
      rw q at (slice-more f l (first + k) (first + count) v e (omega arith) r)

  pub row_done : (k : ℕ) → count ≤ k → flat f (slice (first + k) (first + count) l) ≡ []
  row_done k h = slice-done f l (first + k) (first + count) (omega arith)

-- ---- items one by one

pub drop-more : (l : List ℕ) (i : ℕ) → i < length l → drop i l ≡ (get_or l i 0 ∷ []) ++ drop (i + 1) l
drop-more l i h = rw add-one (drop-cons l i 0 h)

pub below : (n : ℕ) (l : List ℕ) (i : ℕ) → i < length l → AllByRecursion (λ x. x < n) l → get_or l i 0 < n
below n l i h a = All-from_recursion (λ x. x < n) l a i 0 h

pub flat-drop : (f : ℕ → List ℕ) (l : List ℕ) (i : ℕ) → i < length l → flat f (drop i l) ≡ f (get_or l i 0) ++ flat f (drop (i + 1) l)
unfolding flat
flat-drop f l i h = rw (drop-step l i h)

pub flat_end : (f : ℕ → List ℕ) (l : List ℕ) (i : ℕ) → length l ≤ i → flat f (drop i l) ≡ []
unfolding flat
flat_end f l i h = rw (drop-none l i h)
