-- Laws of sets as binary digits: of both sets, of either, how many numbers there are, and of the set of a test.
use Rattle.std.proofs.Common.{◌≡◌, ℕ, zero, suc, ◌+◌, ◌-◌, ◌*◌, ◌/◌, ◌%◌, ◌^◌, ◌<◌, ◌≤◌, min, max, Bool, true, false, not, ◌&&◌, ◌||◌, List, [], ◌∷◌, length, sym, refl, ap, ◌∙◌, true≢false, append-nil, mod-lt, mod-eq_of_lt, mul_comm, one-mul, pow-suc, arith, length-append, pow_pos, pow-add}
use native.Mathlib.Nat.{div-div-eq-div-mul}
use native.Mathlib.Decide.{ℕ_discrete, dec_lt}
use lib.Arith.{mod-mul}
use lib.Pow.{pow-lt}
use lib.Bits.{bit_and, bit_or, bit_xor, differ, and_step, or_step, xor_step}
use lib.Count.{ones, ones_cat, ones-le, count_trailing_zeros, under}
use Rattle.lists.specs.Lists.{pick, bit, same, from, range, some, keep}
use Rattle.lists.proofs.Tests.{both_ways, not-true-false, not-false-true, same_self, same-no, same-yes}
use Rattle.lists.proofs.Ranges.{from-snoc, from-append, member-from, from_member}
use Rattle.lists.proofs.Members.{keep_append, keep-none}
use Rattle.places.specs.Sets.{bit_at, set_from}
use Rattle.places.proofs.Tallies.{some-intro, some-elim}

-- the first number of a set, and the others
pub bit-first : (w : ℕ) → bit_at w 0 ≡ same (w % 2) 1
unfolding bit_at
bit-first w = let e : w / 2 ^ 0 ≡ w = omega arith in rw e

pub bit-later : (w k : ℕ) → bit_at w (suc k) ≡ bit_at (w / 2) k
unfolding bit_at
bit-later w k = rw (pow-suc 2 k, mul_comm (2 ^ k) 2, div-div-eq-div-mul w 2 (2 ^ k))

max-one : (a b : ℕ) → a < 2 → b < 2 → same (max a b) 1 ≡ (same a 1 || same b 1)
unfolding same
max-one zero zero h k = refl
max-one zero (suc zero) h k = refl
max-one (suc zero) zero h k = refl
max-one (suc zero) (suc zero) h k = refl
max-one (suc (suc a)) b h k = absurd (omega arith)
max-one zero (suc (suc b)) h k = absurd (omega arith)
max-one (suc zero) (suc (suc b)) h k = absurd (omega arith)

min-one : (a b : ℕ) → a < 2 → b < 2 → same (min a b) 1 ≡ (same a 1 && same b 1)
unfolding same
min-one zero zero h k = refl
min-one zero (suc zero) h k = refl
min-one (suc zero) zero h k = refl
min-one (suc zero) (suc zero) h k = refl
min-one (suc (suc a)) b h k = absurd (omega arith)
min-one zero (suc (suc b)) h k = absurd (omega arith)
min-one (suc zero) (suc (suc b)) h k = absurd (omega arith)

max-small : (a b : ℕ) → a < 2 → b < 2 → max a b < 2
max-small zero zero h k = omega arith
max-small zero (suc zero) h k = omega arith
max-small (suc zero) zero h k = omega arith
max-small (suc zero) (suc zero) h k = omega arith
max-small (suc (suc a)) b h k = absurd (omega arith)
max-small zero (suc (suc b)) h k = absurd (omega arith)
max-small (suc zero) (suc (suc b)) h k = absurd (omega arith)

min-small : (a b : ℕ) → a < 2 → b < 2 → min a b < 2
min-small zero zero h k = omega arith
min-small zero (suc zero) h k = omega arith
min-small (suc zero) zero h k = omega arith
min-small (suc zero) (suc zero) h k = omega arith
min-small (suc (suc a)) b h k = absurd (omega arith)
min-small zero (suc (suc b)) h k = absurd (omega arith)
min-small (suc zero) (suc (suc b)) h k = absurd (omega arith)

pub bit-or : (a b k : ℕ) → bit_at (bit_or a b) k ≡ (bit_at a k || bit_at b k)
bit-or a b zero =
    let q : max (a % 2) (b % 2) < 2 = max-small (a % 2) (b % 2) (omega arith) (omega arith) in
    let s : bit_or a b % 2 ≡ max (a % 2) (b % 2) = omega (arith, or_step a b) in
    rw (bit-first (bit_or a b), bit-first a, bit-first b, s) (max-one (a % 2) (b % 2) (omega arith) (omega arith))
bit-or a b (suc k) =
    let q : max (a % 2) (b % 2) < 2 = max-small (a % 2) (b % 2) (omega arith) (omega arith) in
    let s : bit_or a b / 2 ≡ bit_or (a / 2) (b / 2) = omega (arith, or_step a b) in
    rw (bit-later (bit_or a b) k, bit-later a k, bit-later b k, s) (bit-or (a / 2) (b / 2) k)

pub bit-and : (a b k : ℕ) → bit_at (bit_and a b) k ≡ (bit_at a k && bit_at b k)
bit-and a b zero =
    let q : min (a % 2) (b % 2) < 2 = min-small (a % 2) (b % 2) (omega arith) (omega arith) in
    let s : bit_and a b % 2 ≡ min (a % 2) (b % 2) = omega (arith, and_step a b) in
    rw (bit-first (bit_and a b), bit-first a, bit-first b, s) (min-one (a % 2) (b % 2) (omega arith) (omega arith))
bit-and a b (suc k) =
    let q : min (a % 2) (b % 2) < 2 = min-small (a % 2) (b % 2) (omega arith) (omega arith) in
    let s : bit_and a b / 2 ≡ bit_and (a / 2) (b / 2) = omega (arith, and_step a b) in
    rw (bit-later (bit_and a b) k, bit-later a k, bit-later b k, s) (bit-and (a / 2) (b / 2) k)

differ-one : (a b : ℕ) → a < 2 → b < 2 → (differ a b < 2) × (same (differ a b) 1 ≡ pick (same a 1) (not (same b 1)) (same b 1))
unfolding same
differ-one zero zero h k = (omega arith, refl)
differ-one zero (suc zero) h k = (omega arith, refl)
differ-one (suc zero) zero h k = (omega arith, refl)
differ-one (suc zero) (suc zero) h k = (omega arith, refl)
differ-one (suc (suc a)) b h k = absurd (omega arith)
differ-one zero (suc (suc b)) h k = absurd (omega arith)
differ-one (suc zero) (suc (suc b)) h k = absurd (omega arith)

bit-xor : (a b k : ℕ) → bit_at (bit_xor a b) k ≡ pick (bit_at a k) (not (bit_at b k)) (bit_at b k)
bit-xor a b zero =
    let q = differ-one (a % 2) (b % 2) (omega arith) (omega arith) in
    let s : bit_xor a b % 2 ≡ differ (a % 2) (b % 2) = omega (arith, xor_step a b, q.0) in
    rw (bit-first (bit_xor a b), bit-first a, bit-first b, s) q.1
bit-xor a b (suc k) =
    let q = differ-one (a % 2) (b % 2) (omega arith) (omega arith) in
    let s : bit_xor a b / 2 ≡ bit_xor (a / 2) (b / 2) = omega (arith, xor_step a b, q.0) in
    rw (bit-later (bit_xor a b) k, bit-later a k, bit-later b k, s) (bit-xor (a / 2) (b / 2) k)

-- those of one set that are not in another
pub bit-without : (a b k : ℕ) → bit_at (bit_xor a (bit_and a b)) k ≡ (bit_at a k && not (bit_at b k))
bit-without a b k = rw (bit-xor a (bit_and a b) k, bit-and a b k) (go (bit_at a k))
  where
    go : (x : Bool) → pick x (not (x && bit_at b k)) (x && bit_at b k) ≡ (x && not (bit_at b k))
    go true = refl
    go false = refl

-- the empty set, and a set of one
pub bit-zero : (k : ℕ) → bit_at 0 k ≡ false
bit-zero zero = bit-first 0 ∙ same-no (0 % 2) 1 (λ e. omega arith)
bit-zero (suc k) = let e : 0 / 2 ≡ 0 = omega arith in bit-later 0 k ∙ rw e (bit-zero k)

same-suc : (a b : ℕ) → same a b ≡ same (suc a) (suc b)
same-suc a b = go (ℕ_discrete a b)
  where
    go : Dec (a ≡ b) → same a b ≡ same (suc a) (suc b)
    go (yes p) = same-yes a b p ∙ sym (same-yes (suc a) (suc b) (ap suc p))
    go (no d) = same-no a b d ∙ sym (same-no (suc a) (suc b) (λ e. d (omega arith)))

pub bit-one : (j k : ℕ) → bit_at (2 ^ j) k ≡ same j k
bit-one zero zero = bit-first 1 ∙ same-yes (1 % 2) 1 (omega arith) ∙ sym (same_self 0)
bit-one zero (suc k) = let e : 1 / 2 ≡ 0 = omega arith in bit-later 1 k ∙ rw e (bit-zero k) ∙ sym (same-no 0 (suc k) (λ q. omega arith))
bit-one (suc j) zero =
    let p : 2 ^ suc j ≡ 2 ^ j * 2 = pow-suc 2 j in
    bit-first (2 ^ suc j) ∙ same-no (2 ^ suc j % 2) 1 (λ e. omega arith) ∙ sym (same-no (suc j) 0 (λ q. omega arith))
bit-one (suc j) (suc k) =
    let p : 2 ^ suc j ≡ 2 ^ j * 2 = pow-suc 2 j in
    let q : 2 ^ suc j / 2 ≡ 2 ^ j = omega arith in
    bit-later (2 ^ suc j) k ∙ rw q (bit-one j k) ∙ same-suc j k

-- the lowest number of a set, and the set without it
pub low-in : (n w : ℕ) → 0 < w → w < 2 ^ n → (count_trailing_zeros n w < n) × (bit_at w (count_trailing_zeros n w) ≡ true)
unfolding count_trailing_zeros
low-in zero w h l = absurd (omega arith)
low-in (suc n) w h l = go (w % 2) refl (low-in n (w / 2))
  where
    half : w / 2 < 2 ^ n
    half = omega (arith, pow-suc 2 n)

    go : (d : ℕ) → w % 2 ≡ d → (0 < w / 2 → w / 2 < 2 ^ n → (count_trailing_zeros n (w / 2) < n) × (bit_at (w / 2) (count_trailing_zeros n (w / 2)) ≡ true))
        → (under d (count_trailing_zeros n (w / 2)) < suc n) × (bit_at w (under d (count_trailing_zeros n (w / 2))) ≡ true)
    go zero e f = let (a, b) = f (omega arith) half in (omega arith, bit-later w (count_trailing_zeros n (w / 2)) ∙ b)
    go (suc zero) e f = (omega arith, bit-first w ∙ same-yes (w % 2) 1 e)
    go (suc (suc d)) e f = absurd (omega arith)

-- nothing is below the lowest number
pub low-none : (n w k : ℕ) → k < count_trailing_zeros n w → bit_at w k ≡ false
unfolding count_trailing_zeros
low-none zero w k l = absurd (omega arith)
low-none (suc n) w k l = go (w % 2) refl k l (λ j. low-none n (w / 2) j)
  where
    go : (d : ℕ) → w % 2 ≡ d → (k : ℕ) → k < under d (count_trailing_zeros n (w / 2)) → ((j : ℕ) → j < count_trailing_zeros n (w / 2) → bit_at (w / 2) j ≡ false)
        → bit_at w k ≡ false
    go zero e zero l f = bit-first w ∙ same-no (w % 2) 1 (λ q. omega arith)
    go zero e (suc j) l f = bit-later w j ∙ f j (omega arith)
    go (suc d) e k l f = absurd (omega arith)

less_one : (n w k : ℕ) → 0 < w → w < 2 ^ n → bit_at w k ≡ true → bit_at (w - 1) k ≡ not (same k (count_trailing_zeros n w))
unfolding count_trailing_zeros
less_one zero w k h l b = absurd (omega arith)
less_one (suc n) w k h l b = go (w % 2) refl k b (λ j. less_one n (w / 2) j)
  where
    half : w / 2 < 2 ^ n
    half = omega (arith, pow-suc 2 n)

    go : (d : ℕ) → w % 2 ≡ d → (k : ℕ) → bit_at w k ≡ true
        → ((j : ℕ) → 0 < w / 2 → w / 2 < 2 ^ n → bit_at (w / 2) j ≡ true → bit_at (w / 2 - 1) j ≡ not (same j (count_trailing_zeros n (w / 2))))
        → bit_at (w - 1) k ≡ not (same k (under d (count_trailing_zeros n (w / 2))))
    go zero e zero b f = absurd (true≢false (sym b ∙ bit-first w ∙ same-no (w % 2) 1 (λ q. omega arith)))
    go zero e (suc j) b f =
        let a : (w - 1) / 2 ≡ w / 2 - 1 = omega arith in
        rw (bit-later (w - 1) j, a, ← (same-suc j (count_trailing_zeros n (w / 2)))) (f j (omega arith) half (sym (bit-later w j) ∙ b))
    go (suc zero) e zero b f = rw (bit-first (w - 1), same-no ((w - 1) % 2) 1 (λ q. omega arith), same_self 0)
    go (suc zero) e (suc j) b f =
        let a : (w - 1) / 2 ≡ w / 2 = omega arith in
        rw (bit-later (w - 1) j, a, same-no (suc j) 0 (λ q. omega arith)) (sym (bit-later w j) ∙ b)
    go (suc (suc d)) e k b f = absurd (omega arith)

pub low-left : (n w k : ℕ) → 0 < w → w < 2 ^ n → bit_at (bit_and w (w - 1)) k ≡ (bit_at w k && not (same k (count_trailing_zeros n w)))
low-left n w k h l = bit-and w (w - 1) k ∙ go (bit_at w k) refl
  where
    go : (x : Bool) → bit_at w k ≡ x → (x && bit_at (w - 1) k) ≡ (x && not (same k (count_trailing_zeros n w)))
    go true e = less_one n w k h l e
    go false e = refl

-- a set with no number below n is empty, where the word is below 2ⁿ
pub bit-none : (n w : ℕ) → w < 2 ^ n → ((k : ℕ) → k < n → bit_at w k ≡ false) → w ≡ 0
bit-none zero w l h = omega arith
bit-none (suc n) w l h =
    let p : 2 ^ suc n ≡ 2 ^ n * 2 = pow-suc 2 n in
    let a : w / 2 ≡ 0 = bit-none n (w / 2) (omega arith) (λ k m. sym (bit-later w k) ∙ h (suc k) (omega arith)) in
    let b : same (w % 2) 1 ≡ false = sym (bit-first w) ∙ h 0 (omega arith) in
    even (w % 2) refl (omega arith) b a
  where
    even : (d : ℕ) → w % 2 ≡ d → d < 2 → same (w % 2) 1 ≡ false → w / 2 ≡ 0 → w ≡ 0
    even zero e k b a = omega arith
    even (suc zero) e k b a = absurd (true≢false (sym (same-yes (w % 2) 1 e) ∙ b))
    even (suc (suc d)) e k b a = absurd (omega arith)

-- how many numbers of the set are below v: the ones of the word's low digits
digit_ones : (d : ℕ) → d < 2 → ones d ≡ bit (same d 1)
unfolding ones same
digit_ones zero h = refl
digit_ones (suc zero) h = refl
digit_ones (suc (suc d)) h = absurd (omega arith)

no-keep : (p : ℕ → Bool) → length (keep p (range 0)) ≡ 0
unfolding keep from
no-keep p = refl

keep-next : (p : ℕ → Bool) (v : ℕ) → length (keep p (range (suc v))) ≡ length (keep p (range v)) + bit (p v)
unfolding keep
keep-next p v =
    let z : 0 + v ≡ v = omega arith in
    ap (λ (xs : List ℕ). length (keep p xs)) (from-snoc 0 v)
    ∙ rw (z, keep_append p (range v) (v ∷ []), length-append (keep p (range v)) (keep p (v ∷ []))) (ap (λ (n : ℕ). length (keep p (range v)) + n) (one (p v)))
  where
    one : (b : Bool) → length (pick b (v ∷ []) []) ≡ bit b
    one true = refl
    one false = refl

pub rank : (v w : ℕ) → ones (w % 2 ^ v) ≡ length (keep (bit_at w) (range v))
unfolding ones bit_at
rank zero w = let e : w % 2 ^ 0 ≡ 0 = omega arith in rw e (sym (no-keep (bit_at w)))
rank (suc v) w =
    rw (
      pow-suc 2 v,
      mul_comm (2 ^ v) 2,
      mod-mul w {m = 2} {c = 2 ^ v} (omega arith) (pow_pos v),
      ones_cat v (w / 2 ^ v % 2) (w % 2 ^ v) (mod-lt w (pow_pos v)),
      digit_ones (w / 2 ^ v % 2) (omega arith),
    )
    (omega (arith, keep-next (bit_at w) v, rank v w))

pub one_shifted : (k : ℕ) → k < 64 → 1 * 2 ^ k % 2 ^ 64 ≡ 2 ^ k
one_shifted k h = rw one-mul (mod-eq_of_lt (pow-lt h))

-- the ones of low digits are few
pub ones-few : (v w : ℕ) → v < 64 → ones (w % 2 ^ v) ≤ 64
ones-few v w h = omega (arith, ones-le v (w % 2 ^ v) (mod-lt w (pow_pos v)))

-- words with the same numbers are the same
pub bit-same : (n v w : ℕ) → v < 2 ^ n → w < 2 ^ n → ((k : ℕ) → k < n → bit_at v k ≡ bit_at w k) → v ≡ w
bit-same zero v w a b h = omega arith
bit-same (suc n) v w a b h =
    let p : 2 ^ suc n ≡ 2 ^ n * 2 = pow-suc 2 n in
    let q : v / 2 ≡ w / 2 = bit-same n (v / 2) (w / 2) (omega arith) (omega arith) (λ k m. sym (bit-later v k) ∙ h (suc k) (omega arith) ∙ bit-later w k) in
    let d : same (v % 2) 1 ≡ same (w % 2) 1 = sym (bit-first v) ∙ h 0 (omega arith) ∙ bit-first w in
    let e : v % 2 ≡ w % 2 = digits (v % 2) (w % 2) (omega arith) (omega arith) d in
    omega arith
  where
    digits : (a b : ℕ) → a < 2 → b < 2 → same a 1 ≡ same b 1 → a ≡ b
    digits zero zero h k q = refl
    digits (suc zero) (suc zero) h k q = refl
    digits zero (suc zero) h k q = absurd (true≢false (sym (same_self 1) ∙ sym q ∙ same-no 0 1 (λ e. omega arith)))
    digits (suc zero) zero h k q = absurd (true≢false (sym (same_self 1) ∙ q ∙ same-no 0 1 (λ e. omega arith)))
    digits (suc (suc a)) b h k q = absurd (omega arith)
    digits zero (suc (suc b)) h k q = absurd (omega arith)
    digits (suc zero) (suc (suc b)) h k q = absurd (omega arith)

-- ---- parts of a set, and the set of a test

-- the digits from digit a on
pub bit_shifted : (w a k : ℕ) → bit_at (w / 2 ^ a) k ≡ bit_at w (a + k)
unfolding bit_at
bit_shifted w a k = rw (pow-add 2 a k, div-div-eq-div-mul w (2 ^ a) (2 ^ k))

-- the first n digits
pub bit-low : (n k w : ℕ) → k < n → bit_at (w % 2 ^ n) k ≡ bit_at w k
bit-low zero k w l = absurd (omega arith)
bit-low (suc n) zero w l =
    let e : w % 2 ^ suc n % 2 ≡ w % 2 = ap (λ (m : ℕ). w % m % 2) (pow-suc 2 n) ∙ rw (mod-mul w {m = 2 ^ n} {c = 2} (pow_pos n) (omega arith)) (omega arith) in
    bit-first (w % 2 ^ suc n) ∙ rw e (sym (bit-first w))
bit-low (suc n) (suc k) w l =
    let e : w % 2 ^ suc n / 2 ≡ w / 2 % 2 ^ n =
    ap (λ (m : ℕ). w % m / 2) (pow-suc 2 n) ∙ rw (mod-mul w {m = 2 ^ n} {c = 2} (pow_pos n) (omega arith)) (omega arith) in
    bit-later (w % 2 ^ suc n) k ∙ rw e (bit-low n k (w / 2) (omega arith)) ∙ sym (bit-later w k)

pub set-small : (f : ℕ → Bool) (n : ℕ) → set_from f n < 2 ^ n
unfolding set_from
set-small f zero = omega arith
set-small f (suc n) = go (f 0) (set-small (λ k. f (suc k)) n) (pow-suc 2 n)
  where
    go : (b : Bool) → set_from (λ k. f (suc k)) n < 2 ^ n → 2 ^ suc n ≡ 2 ^ n * 2 → bit b + 2 * set_from (λ k. f (suc k)) n < 2 ^ suc n
    go true h p = omega arith
    go false h p = omega arith

pub bit-set : (f : ℕ → Bool) (n k : ℕ) → k < n → bit_at (set_from f n) k ≡ f k
unfolding set_from
bit-set f zero k l = absurd (omega arith)
bit-set f (suc n) zero l = bit-first (bit (f 0) + 2 * set_from (λ k. f (suc k)) n) ∙ go (f 0)
  where
    go : (b : Bool) → same ((bit b + 2 * set_from (λ k. f (suc k)) n) % 2) 1 ≡ b
    go true = same-yes ((1 + 2 * set_from (λ k. f (suc k)) n) % 2) 1 (omega arith)
    go false = same-no ((0 + 2 * set_from (λ k. f (suc k)) n) % 2) 1 (λ e. omega arith)
bit-set f (suc n) (suc k) l =
    let e : (bit (f 0) + 2 * set_from (λ k. f (suc k)) n) / 2 ≡ set_from (λ k. f (suc k)) n = half (f 0) in
    bit-later (bit (f 0) + 2 * set_from (λ k. f (suc k)) n) k ∙ rw e (bit-set (λ k. f (suc k)) n k (omega arith))
  where
    half : (b : Bool) → (bit b + 2 * set_from (λ k. f (suc k)) n) / 2 ≡ set_from (λ k. f (suc k)) n
    half true = omega arith
    half false = omega arith

-- tests that agree have the same set
pub set_same : (f g : ℕ → Bool) (n : ℕ) → ((k : ℕ) → k < n → f k ≡ g k) → set_from f n ≡ set_from g n
set_same f g n h = bit-same n (set_from f n) (set_from g n) (set-small f n) (set-small g n) (λ k l. bit-set f n k l ∙ h k l ∙ sym (bit-set g n k l))

-- n digits of a set from digit a on are the set of what it has there
pub digits_are : (w a n : ℕ) (f : ℕ → Bool) → ((k : ℕ) → k < n → bit_at w (a + k) ≡ f k) → w / 2 ^ a % 2 ^ n ≡ set_from f n
digits_are w a n f h =
    bit-same n (w / 2 ^ a % 2 ^ n) (set_from f n) (mod-lt (w / 2 ^ a) (pow_pos n)) (set-small f n)
    (λ k l. bit-low n k (w / 2 ^ a) l ∙ bit_shifted w a k ∙ h k l ∙ sym (bit-set f n k l))

-- a set of a test is empty where nothing passes
pub set-none : (f : ℕ → Bool) (n : ℕ) → ((k : ℕ) → k < n → f k ≡ false) → set_from f n ≡ 0
set-none f n h = bit-none n (set_from f n) (set-small f n) (λ k l. bit-set f n k l ∙ h k l)

-- a set that is not empty has a number
pub set-some : (n w : ℕ) → w < 2 ^ n → not (same w 0) ≡ some (bit_at w) (range n)
set-some n w h = both_ways (not (same w 0)) (some (bit_at w) (range n)) forth back
  where
    here : (k : ℕ) → k < n → bit_at w k ≡ true → some (bit_at w) (range n) ≡ true
    here k l e = some-intro (bit_at w) k (range n) (member-from k 0 n (omega arith) (omega arith)) e

    empty : some (bit_at w) (range n) ≡ false → w ≡ 0
    empty q = bit-none n w h (λ k l. not-true-false (bit_at w k) (λ e. true≢false (sym (here k l e) ∙ q)))

    forth : not (same w 0) ≡ true → some (bit_at w) (range n) ≡ true
    forth q = not-false-true (some (bit_at w) (range n)) (λ f. true≢false (sym q ∙ rw (same-yes w 0 (empty f))))

    back : some (bit_at w) (range n) ≡ true → not (same w 0) ≡ true
    back q =
        let (k, m, e) = some-elim (bit_at w) (range n) q in
        rw (same-no w 0 (λ z. true≢false (sym e ∙ ap (λ (u : ℕ). bit_at u k) z ∙ bit-zero k)))

-- a number past the digits is not in the set
pub bit_past : (n w k : ℕ) → w < 2 ^ n → n ≤ k → bit_at w k ≡ false
bit_past zero w k h l = let e : w ≡ 0 = omega arith in rw e (bit-zero k)
bit_past (suc n) w zero h l = absurd (omega arith)
bit_past (suc n) w (suc k) h l =
    let p : 2 ^ suc n ≡ 2 ^ n * 2 = pow-suc 2 n in
    bit-later w k ∙ bit_past n (w / 2) k (omega arith) (omega arith)

pub bit_below : (n w k : ℕ) → w < 2 ^ n → bit_at w k ≡ true → k < n
bit_below n w k h b = go (dec_lt k n)
  where
    go : Dec (k < n) → k < n
    go (yes l) = l
    go (no l) = absurd (true≢false (sym b ∙ bit_past n w k h (omega arith)))

-- the numbers of a set, looked for past them
pub numbers-past : (w n m : ℕ) → w < 2 ^ n → n ≤ m → keep (bit_at w) (range m) ≡ keep (bit_at w) (range n)
numbers-past w n m h l =
    let e : m ≡ n + (m - n) = omega arith in
    let z : 0 + n ≡ n = omega arith in
    ap (λ (k : ℕ). keep (bit_at w) (range k)) e
    ∙ rw (
      from-append 0 n (m - n),
      z,
      keep_append (bit_at w) (range n) (from n (m - n)),
      keep-none (bit_at w) (from n (m - n)) (λ k u. bit_past n w k h (from_member k n (m - n) u).0),
    )
    (simp append-nil)

-- all digits are counted past them
pub rank-all : (w v : ℕ) → w < 2 ^ 64 → 64 ≤ v → ones w ≡ length (keep (bit_at w) (range v))
rank-all w v h l =
    ap ones (sym (mod-eq_of_lt h)) ∙ rank 64 w ∙ ap (λ (xs : List ℕ). length xs) (sym (numbers-past w 64 v h l))

-- n digits are below 2ⁿ, and fit 32 bits
pub digits-small : (w n : ℕ) → n ≤ 32 → w % 2 ^ n < 2 ^ 32
digits-small w n h = go (dec_lt n 32)
  where
    go : Dec (n < 32) → w % 2 ^ n < 2 ^ 32
    go (yes l) = omega (arith, mod-lt w (pow_pos n), pow-lt l)
    go (no l) = let e : n ≡ 32 = omega arith in rw e (mod-lt w (pow_pos 32))
