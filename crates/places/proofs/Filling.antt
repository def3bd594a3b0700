-- The reaches in the plan: the sets of public and restricted names, and of the least reaches the digits of public and of bound names.
use Rattle.std.proofs.Common.{◌≡◌, ℕ, ◌+◌, ◌/◌, ◌%◌, ◌^◌, ◌<◌, ◌≤◌, Bool, true, false, ◌&&◌, eqb, ltb, List, map, length, set, replicate, sym, ap, ◌∙◌, arith, length-set, get_or-set_other, get_or-set_same, le-ltb, lt-ltb, le-leb}
use native.Mathlib.Decide.{ℕ_discrete, dec_lt}
use lib.ListN.{length-replicate}
use lib.Seq.{sets}
use Rattle.lists.specs.Lists.{same, word, range}
use Rattle.lists.proofs.Tests.{and-false, not-true-false}
use Rattle.lists.proofs.Members.{map_same}
use Rattle.scheme.specs.Words.{publics, bounds, names, name_kind_of}
use Rattle.scheme.specs.Scheme.{scheme}
use Rattle.places.specs.Reach.{is_source_name}
use Rattle.places.specs.Sets.{set_from}
use Rattle.places.specs.Plan.{public_words, restricted_words}
use Rattle.places.specs.Reaches.{public_set_word, restricted_set_word}
use Rattle.places.specs.Inner.Plan.{today}
use Rattle.places.specs.Inner.Sets.{in_set, EmptyFrom, Start, found, Found}
use Rattle.places.proofs.Least.{found_inside}
use Rattle.places.proofs.Arriving.{origins-are}
use Rattle.places.proofs.Bits.{bit-one, bit-none, digits_are}
use Rattle.places.proofs.Settled.{zero_bit}
use Rattle.places.proofs.Controls.{publics-are, bounds-are}

-- ---- the sets of public and restricted names

pub source-public : (w : List ℕ) (x : ℕ) → x < publics w → is_source_name (scheme w) x ≡ true
unfolding scheme
source-public w x h = rw (lt-ltb x (publics w) h)

pub source-kind : (w : List ℕ) (x k : ℕ) → publics w ≤ x → x < names w → k ≡ name_kind_of w x → eqb k 0 ≡ is_source_name (scheme w) x
unfolding scheme same
source-kind w x k h l e = rw (le-ltb x (publics w) h, le-leb (publics w) x h, lt-ltb x (names w) l, e)

-- those below i are there
abbrev pub Owned : List ℕ → ℕ → List ℕ → Type 0
Owned w i ws = (length ws ≡ 64) × ((x o : ℕ) → in_set ws x o ≡ (ltb x i && (is_source_name (scheme w) x && same x o)))

pub own-none : (w ws : List ℕ) → ws ≡ replicate 64 0 → Owned w 0 ws
own-none w ws e = (ap length e ∙ length-replicate {A = ℕ} 64 0, λ x o. rw (e, le-ltb x 0 (omega arith)) (zero_bit 64 x o))

below_next : (x i : ℕ) → (x ≡ i → ⊥) → ltb x i ≡ ltb x (i + 1)
below_next x i d = go (dec_lt x i)
  where
    go : Dec (x < i) → ltb x i ≡ ltb x (i + 1)
    go (yes l) = lt-ltb x i l ∙ sym (lt-ltb x (i + 1) (omega arith))
    go (no l) = le-ltb x i (omega arith) ∙ sym (le-ltb x (i + 1) (omega arith))

pub own-yes : (w ws : List ℕ) (i v : ℕ) → i < 64 → v ≡ 2 ^ i → is_source_name (scheme w) i ≡ true → Owned w i ws → Owned w (i + 1) (set ws i v)
own-yes w ws i v l q s (e, f) = (length-set ws i v ∙ e, λ x o. go x o (ℕ_discrete x i))
  where
    go : (x o : ℕ) → Dec (x ≡ i) → in_set (set ws i v) x o ≡ (ltb x (i + 1) && (is_source_name (scheme w) x && same x o))
    go x o (yes p) = rw (p, get_or-set_same ws i v 0 (omega arith), lt-ltb i (i + 1) (omega arith), s, q) (bit-one i o)
    go x o (no d) = rw (get_or-set_other ws i x v 0 d, ← (below_next x i d)) (f x o)

pub own-no : (w ws : List ℕ) (i : ℕ) → is_source_name (scheme w) i ≡ false → Owned w i ws → Owned w (i + 1) ws
own-no w ws i s (e, f) = (e, λ x o. f x o ∙ go x o (ℕ_discrete x i))
  where
    go : (x o : ℕ) → Dec (x ≡ i) → (ltb x i && (is_source_name (scheme w) x && same x o)) ≡ (ltb x (i + 1) && (is_source_name (scheme w) x && same x o))
    go x o (yes p) = rw (p, s, and-false (ltb i i), and-false (ltb i (i + 1)))
    go x o (no d) = rw (← (below_next x i d))

pub own-done : (w ws : List ℕ) (i : ℕ) → i ≡ names w → Owned w i ws → Start (scheme w) ws
unfolding scheme
own-done w ws i q (e, f) = record { size = e; own = λ x o. f x o ∙ rw q }

-- ---- their digits

module _ (w ws : List ℕ) (F : Found (scheme w) ws) where
  -- past the names the sets are empty
  pub empty-from : (n : ℕ) → n ≡ names w → EmptyFrom n ws
  empty-from n e x l =
      bit-none 64 (word ws x) (F.small x)
      (λ o k. sym (F.are x o) ∙ not-true-false (found (scheme w) x o)
      (λ t. let i : x < (scheme w).publics + (scheme w).bounds = (found_inside (scheme w) x o t).0 in omega (arith, e, publics-are w, bounds-are w)))

  -- the digits from digit a on
  digits : (a k : ℕ) (f : ℕ → ℕ → Bool) → ((x i : ℕ) → (today w).origins x (a + i) ≡ f x i) → (x : ℕ) → word ws x / 2 ^ a % 2 ^ k ≡ set_from (f x) k
  digits a k f q x = digits_are (word ws x) a k (f x) (λ i l. sym (origins-are (scheme w) x (a + i) ∙ F.are x (a + i)) ∙ q x i)

  pub reaches-put : (p b : ℕ) → p ≡ publics w → b ≡ bounds w → (index y z : List ℕ)
      → y ≡ sets index 832 (map (λ x. word ws x / 2 ^ 0 % 2 ^ p) (range 64))
      → z ≡ sets y 896 (map (λ x. word ws x / 2 ^ p % 2 ^ b) (range 64))
      → z ≡ sets (sets index 832 (public_words w)) 896 (restricted_words w)
  unfolding public_words restricted_words
  reaches-put p b ep eb index y z ey ez =
      ez
      ∙ ap (λ (m : List ℕ). sets y 896 m) (map_same (λ x. word ws x / 2 ^ p % 2 ^ b) (restricted_set_word w) (range 64) behind)
      ∙ ap (λ (l : List ℕ). sets l 896 (map (restricted_set_word w) (range 64)))
      (ey ∙ ap (λ (m : List ℕ). sets index 832 m) (map_same (λ x. word ws x / 2 ^ 0 % 2 ^ p) (public_set_word w) (range 64) front))
    where
      front : (x : ℕ) → word ws x / 2 ^ 0 % 2 ^ p ≡ public_set_word w x
      front x =
          digits 0 p (today w).origins (λ x i. let z : 0 + i ≡ i = omega arith in rw z) x ∙ ap (λ (k : ℕ). set_from ((today w).origins x) k) ep

      behind : (x : ℕ) → word ws x / 2 ^ p % 2 ^ b ≡ restricted_set_word w x
      behind x =
          digits p b (λ x i. (today w).origins x (publics w + i)) (λ x i. rw ep) x
          ∙ ap (λ (k : ℕ). set_from (λ i. (today w).origins x (publics w + i)) k) eb
