-- The lowest of a set by trailing zeros, and their number by ones.
use Rattle.std.proofs.Common.{◌≡◌, ℕ, zero, suc, ◌+◌, ◌*◌, ◌/◌, ◌%◌, ◌^◌, ◌<◌, ◌≤◌, Bool, true, false, List, ◌∷◌, length, sym, refl, ap, ◌∙◌, pow-suc, arith, length-append}
use mathlib.Core.Option.{none, some}
use native.Mathlib.Decide.{dec_lt}
use lib.Count.{count_trailing_zeros, under, ones, ones_step}
use Rattle.lists.specs.Lists.{pick, bit, same, word, range, from, keep, first_from}
use Rattle.lists.proofs.Tests.{false-true, same-yes, same-no, same_self}
use Rattle.lists.proofs.Ranges.{from-append}
use Rattle.lists.proofs.Members.{keep_append}
use Rattle.lists.proofs.First.{First, first_found, first-none}
use Rattle.summary.specs.Sets.{has_bit, is_in_set, lowest_in, number_in}
use Rattle.summary.proofs.Digits.{bit-low, bit_up, odd-bit}

-- ---- trailing zeros

even : (x : ℕ) → x % 2 ≡ 0 → has_bit x 0 ≡ false
even x e = bit-low x ∙ same-no (x % 2) 1 (λ o. omega arith)

odd : (x : ℕ) → x % 2 ≡ 1 → has_bit x 0 ≡ true
odd x e = bit-low x ∙ same-yes (x % 2) 1 e

-- the first bit that is set
pub zeros-bit : (n x : ℕ) → count_trailing_zeros n x < n → has_bit x (count_trailing_zeros n x) ≡ true
unfolding count_trailing_zeros
zeros-bit zero x h = absurd (omega arith)
zeros-bit (suc n) x h = go (x % 2) refl h (zeros-bit n (x / 2))
  where
    go : (d : ℕ) → x % 2 ≡ d → under d (count_trailing_zeros n (x / 2)) < suc n
        → (count_trailing_zeros n (x / 2) < n → has_bit (x / 2) (count_trailing_zeros n (x / 2)) ≡ true) → has_bit x (under d (count_trailing_zeros n (x / 2))) ≡ true
    go zero e l f = bit_up x (count_trailing_zeros n (x / 2)) ∙ f (omega arith)
    go (suc zero) e l f = odd x e
    go (suc (suc d)) e l f = absurd (omega arith)

-- none below it
pub zeros-below : (n x j : ℕ) → j < count_trailing_zeros n x → has_bit x j ≡ false
unfolding count_trailing_zeros
zeros-below zero x j h = absurd (omega arith)
zeros-below (suc n) x j h = go (x % 2) refl j h (λ i l. zeros-below n (x / 2) i l)
  where
    go : (d : ℕ) → x % 2 ≡ d → (j : ℕ) → j < under d (count_trailing_zeros n (x / 2))
        → ((i : ℕ) → i < count_trailing_zeros n (x / 2) → has_bit (x / 2) i ≡ false) → has_bit x j ≡ false
    go zero e zero l f = even x e
    go zero e (suc i) l f = bit_up x i ∙ f i (omega arith)
    go (suc d) e j l f = absurd (omega arith)

-- ---- the lowest

module _ (w : List ℕ) where
  -- no number below 64·i is in the set
  abbrev pub NoneBelow : ℕ → Type 0
  NoneBelow i = (k : ℕ) → k < 64 * i → is_in_set w k ≡ false

  in-word : (i b : ℕ) → b < 64 → is_in_set w (64 * i + b) ≡ has_bit (word w i) b
  unfolding is_in_set
  in-word i b h =
      let d : (64 * i + b) / 64 ≡ i = omega arith in
      let r : (64 * i + b) % 64 ≡ b = omega arith in
      rw (d, r)

  below_word : (i z : ℕ) → NoneBelow i → ((j : ℕ) → j < z → has_bit (word w i) j ≡ false) → z ≤ 64 → (k : ℕ) → k < 64 * i + z → is_in_set w k ≡ false
  below_word i z N f h k l = go (dec_lt k (64 * i))
    where
      go : Dec (k < 64 * i) → is_in_set w k ≡ false
      go (yes a) = N k a
      go (no a) =
          let e : 64 * i + k % 64 ≡ k = omega arith in
          ap (is_in_set w) (sym e) ∙ in-word i (k % 64) (omega arith) ∙ f (k % 64) (omega arith)

  pub none_more : (i : ℕ) → NoneBelow i → 64 ≤ count_trailing_zeros 64 (word w i) → NoneBelow (i + 1)
  none_more i N h k l = below_word i 64 N (λ j b. zeros-below 64 (word w i) j (omega arith)) (omega arith) k (omega arith)

  pub lowest-found : (i : ℕ) → i < length w → NoneBelow i → count_trailing_zeros 64 (word w i) < 64
      → some (64 * i + count_trailing_zeros 64 (word w i)) ≡ lowest_in w
  unfolding lowest_in
  lowest-found i l N h = go (first_found (is_in_set w) bits bits 0 at (omega arith) (omega arith) here)
    where
      bits : ℕ
      bits = 64 * length w

      at : ℕ
      at = 64 * i + count_trailing_zeros 64 (word w i)

      here : is_in_set w at ≡ true
      here = in-word i (count_trailing_zeros 64 (word w i)) h ∙ zeros-bit 64 (word w i) h

      lower : (k : ℕ) → k < at → is_in_set w k ≡ false
      lower = below_word i (count_trailing_zeros 64 (word w i)) N (λ j b. zeros-below 64 (word w i) j b) (omega arith)

      go : First (is_in_set w) 0 bits (first_from bits (is_in_set w) 0 bits)
          → some at ≡ pick (same (first_from bits (is_in_set w) 0 bits) bits) none (some (first_from bits (is_in_set w) 0 bits))
      go f = is (first_from bits (is_in_set w) 0 bits) f
        where
          is : (r : ℕ) → First (is_in_set w) 0 bits r → some at ≡ pick (same r bits) none (some r)
          is r f = rw (same-no r bits (λ e. omega (arith, f.high))) (ap some (equal (dec_lt r at) (dec_lt at r)))
            where
              equal : Dec (r < at) → Dec (at < r) → at ≡ r
              equal (yes a) d = false-true (lower r a) f.passes
              equal (no a) (yes b) = false-true (f.least at (omega arith) b) here
              equal (no a) (no b) = omega arith

  pub lowest-none : (i : ℕ) → length w ≤ i → NoneBelow i → none ≡ lowest_in w
  unfolding lowest_in
  lowest-none i l N =
      let e : first_from (64 * length w) (is_in_set w) 0 (64 * length w) ≡ 64 * length w
      = first-none (is_in_set w) (64 * length w) (64 * length w) 0 (λ k a b. N k (omega arith)) in
      rw (e, same_self (64 * length w)) refl

-- ---- ones

ones-kept : (p : ℕ → Bool) (n a x : ℕ) → x < 2 ^ n → ((i : ℕ) → i < n → p (a + i) ≡ has_bit x i) → length (keep p (from a n)) ≡ ones x
unfolding keep from ones
ones-kept p zero a x h f = let e : x ≡ 0 = omega arith in rw e
ones-kept p (suc n) a x h f =
    let q : 2 ^ suc n ≡ 2 ^ n * 2 = pow-suc 2 n in
    let z : a + 0 ≡ a = omega arith in
    let low : p a ≡ same (x % 2) 1 = ap p (sym z) ∙ f 0 (omega arith) ∙ bit-low x in
    let up : length (keep p (from (a + 1) n)) ≡ ones (x / 2)
    = ones-kept p n (a + 1) (x / 2) (omega arith)
    (λ i l. let e : a + 1 + i ≡ a + suc i = omega arith in ap p e ∙ f (suc i) (omega arith) ∙ bit_up x i) in
    count (p a) a (keep p (from (a + 1) n)) ∙ omega (arith, ap bit low, odd-bit x, up, ones_step x)
  where
    count : (b : Bool) (y : ℕ) (ys : List ℕ) → length (pick b (y ∷ ys) ys) ≡ bit b + length ys
    count true y ys = omega arith
    count false y ys = omega arith

-- as many as are in the first i words
abbrev pub counted : List ℕ → ℕ → ℕ
counted w i = length (keep (is_in_set w) (range (64 * i)))

pub count_none : (w : List ℕ) → counted w 0 ≡ 0
unfolding keep from
count_none w = refl

pub count-more : (w : List ℕ) (i : ℕ) → word w i < 2 ^ 64 → counted w (i + 1) ≡ counted w i + ones (word w i)
count-more w i small =
    let e : 64 * (i + 1) ≡ 64 * i + 64 = omega arith in
    let z : 0 + 64 * i ≡ 64 * i = omega arith in
    ap (λ (k : ℕ). length (keep (is_in_set w) (range k))) e
    ∙ ap (λ (l : List ℕ). length (keep (is_in_set w) l)) (from-append 0 (64 * i) 64)
    ∙ ap length (keep_append (is_in_set w) (range (64 * i)) (from (0 + 64 * i) 64))
    ∙ length-append (keep (is_in_set w) (range (64 * i))) (keep (is_in_set w) (from (0 + 64 * i) 64))
    ∙ ap (λ (k : ℕ). counted w i + k)
    (ones-kept (is_in_set w) 64 (0 + 64 * i) (word w i) small (λ b l. ap (λ (k : ℕ). is_in_set w (k + b)) z ∙ in-word w i b l))

pub count-all : (w : List ℕ) (i : ℕ) → i ≡ length w → counted w i ≡ number_in w
unfolding number_in
count-all w i e = rw e
