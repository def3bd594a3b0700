-- Sets made of tests: their words, what is in them, and a set read back from its own bits.
use Rattle.std.proofs.Common.{◌≡◌, ℕ, zero, suc, ◌+◌, ◌*◌, ◌/◌, ◌%◌, ◌^◌, ◌<◌, ◌≤◌, Bool, true, false, List, map, length, set, replicate, sym, refl, ap, ◌∙◌, pow-suc, arith, length-set, get_or-set_other, get_or-set_same, ext_get_or}
use native.Mathlib.Nat.{zero-div}
use native.Mathlib.Decide.{ℕ_discrete}
use lib.ListN.{get_or-eq_default}
use Rattle.lists.specs.Lists.{pick, bit, same, word, range, from}
use Rattle.lists.proofs.Tests.{same-yes, same-no}
use Rattle.lists.proofs.Stores.{word-range, long-map}
use Rattle.summary.specs.Sets.{has_bit, is_in_set, packed, words_of, with_bit_set}
use Rattle.summary.proofs.Digits.{bit-low, bit_up, odd-bit}

-- ---- lists by a rule

map-from-same : (f g : ℕ → ℕ) (n a : ℕ) → ((i : ℕ) → a ≤ i → i < a + n → f i ≡ g i) → map f (from a n) ≡ map g (from a n)
unfolding from
map-from-same f g zero a h = refl
map-from-same f g (suc n) a h = rw (h a (omega arith) (omega arith), map-from-same f g n (a + 1) (λ i x y. h i (omega arith) (omega arith)))

pub map-range-same : (f g : ℕ → ℕ) (n : ℕ) → ((i : ℕ) → i < n → f i ≡ g i) → map f (range n) ≡ map g (range n)
map-range-same f g n h = map-from-same f g n 0 (λ i x y. h i (omega arith))

-- a list is its words
pub list-is : (w : List ℕ) (f : ℕ → ℕ) (n : ℕ) → length w ≡ n → ((i : ℕ) → i < n → word w i ≡ f i) → w ≡ map f (range n)
list-is w f n l h =
    ext_get_or 0 w (map f (range n)) (l ∙ sym (long-map f n)) (λ i k. h i (omega arith) ∙ sym (word-range f n i (omega arith)))

-- ---- one word

bit-odd : (b : Bool) (r : ℕ) → same ((bit b + 2 * r) % 2) 1 ≡ b
bit-odd true r = same-yes ((1 + 2 * r) % 2) 1 (omega arith)
bit-odd false r = same-no ((0 + 2 * r) % 2) 1 (λ e. omega arith)

bit-half : (b : Bool) (r : ℕ) → (bit b + 2 * r) / 2 ≡ r
bit-half true r = omega arith
bit-half false r = omega arith

pub packed-at : (p : ℕ → Bool) (n a i : ℕ) → i < n → has_bit (packed p n a) i ≡ p (a + i)
unfolding packed
packed-at p zero a i h = absurd (omega arith)
packed-at p (suc n) a zero h =
    let e : a ≡ a + 0 = omega arith in
    bit-low (bit (p a) + 2 * packed p n (a + 1)) ∙ bit-odd (p a) (packed p n (a + 1)) ∙ ap p e
packed-at p (suc n) a (suc i) h =
    let e : a + 1 + i ≡ a + suc i = omega arith in
    bit_up (bit (p a) + 2 * packed p n (a + 1)) i ∙ rw (bit-half (p a) (packed p n (a + 1))) (packed-at p n (a + 1) i (omega arith) ∙ ap p e)

-- a word of n bits is what its bits make
pub packed-is : (p : ℕ → Bool) (n a x : ℕ) → x < 2 ^ n → ((i : ℕ) → i < n → p (a + i) ≡ has_bit x i) → packed p n a ≡ x
unfolding packed
packed-is p zero a x h f = omega arith
packed-is p (suc n) a x h f =
    let q : 2 ^ suc n ≡ 2 ^ n * 2 = pow-suc 2 n in
    let z : a + 0 ≡ a = omega arith in
    let low : bit (p a) ≡ x % 2 = rw (ap p (sym z) ∙ f 0 (omega arith) ∙ bit-low x) (odd-bit x) in
    let up : packed p n (a + 1) ≡ x / 2
    = packed-is p n (a + 1) (x / 2) (omega arith)
    (λ i l. let e : a + 1 + i ≡ a + suc i = omega arith in ap p e ∙ f (suc i) (omega arith) ∙ bit_up x i) in
    omega (arith, low, up)

pub packed-same : (p q : ℕ → Bool) (n a : ℕ) → ((i : ℕ) → a ≤ i → i < a + n → p i ≡ q i) → packed p n a ≡ packed q n a
unfolding packed
packed-same p q zero a h = refl
packed-same p q (suc n) a h = rw (h a (omega arith) (omega arith), packed-same p q n (a + 1) (λ i x y. h i (omega arith) (omega arith)))

-- ---- sets

pub words-length : (p : ℕ → Bool) (n : ℕ) → length (words_of p n) ≡ n
unfolding words_of
words-length p n = long-map (λ j. packed p 64 (64 * j)) n

pub is-in : (p : ℕ → Bool) (n k : ℕ) → k < 64 * n → is_in_set (words_of p n) k ≡ p k
unfolding is_in_set words_of
is-in p n k h =
    let e : 64 * (k / 64) + k % 64 ≡ k = omega arith in
    rw (word-range (λ j. packed p 64 (64 * j)) n (k / 64) (omega arith)) (packed-at p 64 (64 * (k / 64)) (k % 64) (omega arith) ∙ ap p e)

pub words_same : (p q : ℕ → Bool) (n : ℕ) → ((k : ℕ) → k < 64 * n → p k ≡ q k) → words_of p n ≡ words_of q n
unfolding words_of
words_same p q n h =
    map-range-same (λ k. packed p 64 (64 * k)) (λ k. packed q 64 (64 * k)) n (λ k y. packed-same p q 64 (64 * k) (λ i u v. h i (omega arith)))

-- a set is what its bits make
pub words_are : (p : ℕ → Bool) (w : List ℕ) → ((j : ℕ) → word w j < 2 ^ 64) → ((k : ℕ) → k < 64 * length w → p k ≡ is_in_set w k) → w ≡ words_of p (length w)
unfolding words_of is_in_set
words_are p w small h =
    list-is w (λ j. packed p 64 (64 * j)) (length w) refl
    (λ j l. sym (packed-is p 64 (64 * j) (word w j) (small j) (λ i b.
    let a : (64 * j + i) / 64 ≡ j = omega arith in
    let c : (64 * j + i) % 64 ≡ i = omega arith in
    h (64 * j + i) (omega arith) ∙ rw (a, c))))

-- nothing is in an empty set, nor past a set's words
no_bits : (k : ℕ) → has_bit 0 k ≡ false
unfolding has_bit
no_bits k = ended (2 ^ k)
  where
    ended : (q : ℕ) → same (0 / q % 2) 1 ≡ false
    ended q = let z : 0 / q ≡ 0 = zero-div q in same-no (0 / q % 2) 1 (λ e. omega arith)

pub none_in : (n k : ℕ) → is_in_set (replicate n 0) k ≡ false
unfolding is_in_set
none_in n k = rw (zeros n (k / 64)) (no_bits (k % 64))
  where
    zeros : (n i : ℕ) → word (replicate n 0) i ≡ 0
    zeros zero i = refl
    zeros (suc n) zero = refl
    zeros (suc n) (suc i) = zeros n i

pub none-past : (w : List ℕ) (k : ℕ) → length w ≤ k / 64 → is_in_set w k ≡ false
unfolding is_in_set
none-past w k h = rw (get_or-eq_default w 0 h) (no_bits (k % 64))

-- ---- one number put in or taken out

-- past the set's words nothing changes
pub put-past : (w : List ℕ) (k : ℕ) (on : Bool) → ((j : ℕ) → word w j < 2 ^ 64) → length w ≤ k / 64 → w ≡ with_bit_set w k on
unfolding with_bit_set
put-past w k on small h = words_are (λ j. pick (same j k) on (is_in_set w j)) w small (λ j l. rw (same-no j k (λ e. omega arith)) refl)

-- the word that has its bit, changed
pub put-bit-is : (w : List ℕ) (k x : ℕ) (on : Bool) → ((j : ℕ) → word w j < 2 ^ 64) → k < 64 * length w → x < 2 ^ 64
    → ((j : ℕ) → has_bit x j ≡ pick (same j (k % 64)) on (has_bit (word w (k / 64)) j)) → set w (k / 64) x ≡ with_bit_set w k on
unfolding with_bit_set words_of is_in_set
put-bit-is w k x on small l s h =
    list-is (set w (k / 64) x) (λ j. packed (λ i. pick (same i k) on (is_in_set w i)) 64 (64 * j)) (length w) (length-set w (k / 64) x) at
  where
    here : (i : ℕ) → i < 64 → pick (same (64 * (k / 64) + i) k) on (is_in_set w (64 * (k / 64) + i)) ≡ has_bit x i
    here i b =
        let a : (64 * (k / 64) + i) / 64 ≡ k / 64 = omega arith in
        let c : (64 * (k / 64) + i) % 64 ≡ i = omega arith in
        rw (a, c) (go (ℕ_discrete i (k % 64)) ∙ sym (h i))
      where
        go : Dec (i ≡ k % 64)
            → pick (same (64 * (k / 64) + i) k) on (has_bit (word w (k / 64)) i) ≡ pick (same i (k % 64)) on (has_bit (word w (k / 64)) i)
        go (yes e) = rw (same-yes i (k % 64) e, same-yes (64 * (k / 64) + i) k (omega arith)) refl
        go (no d) = rw (same-no i (k % 64) d, same-no (64 * (k / 64) + i) k (λ e. d (omega arith))) refl

    there : (j i : ℕ) → (j ≡ k / 64 → ⊥) → i < 64 → pick (same (64 * j + i) k) on (is_in_set w (64 * j + i)) ≡ has_bit (word w j) i
    there j i d b =
        let a : (64 * j + i) / 64 ≡ j = omega arith in
        let c : (64 * j + i) % 64 ≡ i = omega arith in
        rw (same-no (64 * j + i) k (λ e. d (omega arith)), a, c) refl

    at : (j : ℕ) → j < length w → word (set w (k / 64) x) j ≡ packed (λ i. pick (same i k) on (is_in_set w i)) 64 (64 * j)
    at j b = go (ℕ_discrete j (k / 64))
      where
        go : Dec (j ≡ k / 64) → word (set w (k / 64) x) j ≡ packed (λ i. pick (same i k) on (is_in_set w i)) 64 (64 * j)
        go (yes e) =
            rw (e, get_or-set_same w (k / 64) x 0 (omega arith))
            (sym (packed-is (λ i. pick (same i k) on (is_in_set w i)) 64 (64 * (k / 64)) x s here))
        go (no d) =
            rw (get_or-set_other w (k / 64) j x 0 d)
            (sym (packed-is (λ i. pick (same i k) on (is_in_set w i)) 64 (64 * j) (word w j) (small j) (λ i u. there j i d u)))
