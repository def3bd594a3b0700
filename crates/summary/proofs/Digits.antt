-- Bits of a word: by its lowest bit and its half, and after a bit is set or taken out.
use Rattle.std.proofs.Common.{◌≡◌, ℕ, zero, suc, ◌+◌, ◌-◌, ◌*◌, ◌/◌, ◌%◌, ◌^◌, ◌<◌, ◌≤◌, max, Bool, true, false, leb, sym, refl, ap, ◌∙◌, mod-eq_of_lt, mul_comm, one-mul, pow-suc, arith, leb-false, leb-true}
use native.Mathlib.Nat.{div-div-eq-div-mul, div-eq_of_lt, max-zero}
use lib.Bits.{bit_or, or_step, or_zero_r}
use lib.Pow.{pow-lt}
use Rattle.lists.specs.Lists.{pick, same, bit}
use Rattle.lists.proofs.Tests.{same-yes, same-no, same_true, same_self}
use Rattle.summary.specs.Sets.{has_bit}

-- ---- the lowest bit, and the others of the half

pub bit-low : (x : ℕ) → has_bit x 0 ≡ same (x % 2) 1
unfolding has_bit
bit-low x = let e : x / 1 ≡ x = omega arith in rw e

pub bit_up : (x k : ℕ) → has_bit x (suc k) ≡ has_bit (x / 2) k
unfolding has_bit
bit_up x k = rw (pow-suc 2 k, div-div-eq-div-mul x 2 (2 ^ k), mul_comm 2 (2 ^ k))

pub odd-bit : (x : ℕ) → bit (same (x % 2) 1) ≡ x % 2
unfolding same
odd-bit x = go (x % 2) (omega arith)
  where
    go : (d : ℕ) → d < 2 → bit (same d 1) ≡ d
    go zero h = refl
    go (suc zero) h = refl
    go (suc (suc d)) h = absurd (omega arith)

same-suc : (a b : ℕ) → same (suc a) (suc b) ≡ same a b
same-suc a b = go (same a b) refl
  where
    go : (t : Bool) → same a b ≡ t → same (suc a) (suc b) ≡ t
    go true p = same-yes (suc a) (suc b) (ap suc (same_true a b p))
    go false p = same-no (suc a) (suc b) (λ e. Rattle.lists.proofs.Tests.same_false a b p (omega arith))

-- ---- a bit set

max-one : (d : ℕ) → d < 2 → max d 1 ≡ 1
max-one zero h = refl
max-one (suc zero) h = refl
max-one (suc (suc d)) h = absurd (omega arith)

or-one : (x : ℕ) → bit_or x 1 ≡ x / 2 * 2 + 1
or-one x = or_step x 1 ∙ rw (or_zero_r (x / 2), max-one (x % 2) (omega arith))

or-up : (x k : ℕ) → bit_or x (2 ^ suc k) ≡ bit_or (x / 2) (2 ^ k) * 2 + x % 2
or-up x k =
    let p : 2 ^ suc k ≡ 2 ^ k * 2 = pow-suc 2 k in
    let q : 2 ^ suc k / 2 ≡ 2 ^ k = omega arith in
    let z : 2 ^ suc k % 2 ≡ 0 = omega arith in
    or_step x (2 ^ suc k) ∙ rw (q, z, max-zero (x % 2))

pub set-bit : (k j x : ℕ) → has_bit (bit_or x (2 ^ k)) j ≡ pick (same j k) true (has_bit x j)
set-bit zero zero x =
    let o : bit_or x 1 ≡ x / 2 * 2 + 1 = or-one x in
    let a : bit_or x 1 % 2 ≡ 1 = omega arith in
    bit-low (bit_or x 1) ∙ rw (a, same_self 1, same_self 0)
set-bit zero (suc j) x =
    let o : bit_or x 1 ≡ x / 2 * 2 + 1 = or-one x in
    let b : bit_or x 1 / 2 ≡ x / 2 = omega arith in
    bit_up (bit_or x 1) j ∙ rw (b, same-no (suc j) 0 (λ e. omega arith)) (sym (bit_up x j))
set-bit (suc k) zero x =
    let o : bit_or x (2 ^ suc k) ≡ bit_or (x / 2) (2 ^ k) * 2 + x % 2 = or-up x k in
    let a : bit_or x (2 ^ suc k) % 2 ≡ x % 2 = omega arith in
    bit-low (bit_or x (2 ^ suc k)) ∙ rw (a, same-no 0 (suc k) (λ e. omega arith)) (sym (bit-low x))
set-bit (suc k) (suc j) x =
    let o : bit_or x (2 ^ suc k) ≡ bit_or (x / 2) (2 ^ k) * 2 + x % 2 = or-up x k in
    let b : bit_or x (2 ^ suc k) / 2 ≡ bit_or (x / 2) (2 ^ k) = omega arith in
    bit_up (bit_or x (2 ^ suc k)) j ∙ rw b (set-bit k j (x / 2) ∙ rw (same-suc j k, bit_up x j))

-- ---- a bit taken out

bit_le : (x q : ℕ) → x / q % 2 ≡ 1 → q ≤ x
bit_le x q e = go (leb q x) refl
  where
    go : (t : Bool) → leb q x ≡ t → q ≤ x
    go true f = leb-true q x f
    go false f = let z : x / q ≡ 0 = div-eq_of_lt (leb-false q x f) in absurd (omega arith)

-- a word with bit k is at least 2 ^ k
pub bit-within : (x k : ℕ) → has_bit x k ≡ true → 2 ^ k ≤ x
unfolding has_bit
bit-within x k h = bit_le x (2 ^ k) (same_true (x / 2 ^ k % 2) 1 h)

pub out-bit : (k j x : ℕ) → has_bit x k ≡ true → has_bit (x - 2 ^ k) j ≡ pick (same j k) false (has_bit x j)
out-bit zero zero x h =
    let o : x % 2 ≡ 1 = same_true (x % 2) 1 (sym (bit-low x) ∙ h) in
    let a : (x - 1) % 2 ≡ 0 = omega arith in
    bit-low (x - 1) ∙ rw (a, same-no 0 1 (λ e. omega arith), same_self 0)
out-bit zero (suc j) x h =
    let o : x % 2 ≡ 1 = same_true (x % 2) 1 (sym (bit-low x) ∙ h) in
    let b : (x - 1) / 2 ≡ x / 2 = omega arith in
    bit_up (x - 1) j ∙ rw (b, same-no (suc j) 0 (λ e. omega arith)) (sym (bit_up x j))
out-bit (suc k) zero x h =
    let p : 2 ^ suc k ≡ 2 ^ k * 2 = pow-suc 2 k in
    let l : 2 ^ k ≤ x / 2 = bit-within (x / 2) k (sym (bit_up x k) ∙ h) in
    let a : (x - 2 ^ suc k) % 2 ≡ x % 2 = omega arith in
    bit-low (x - 2 ^ suc k) ∙ rw (a, same-no 0 (suc k) (λ e. omega arith)) (sym (bit-low x))
out-bit (suc k) (suc j) x h =
    let p : 2 ^ suc k ≡ 2 ^ k * 2 = pow-suc 2 k in
    let l : 2 ^ k ≤ x / 2 = bit-within (x / 2) k (sym (bit_up x k) ∙ h) in
    let b : (x - 2 ^ suc k) / 2 ≡ x / 2 - 2 ^ k = omega arith in
    bit_up (x - 2 ^ suc k) j ∙ rw b (out-bit k j (x / 2) (sym (bit_up x k) ∙ h) ∙ rw (same-suc j k, bit_up x j))

-- a bit that is not there
pub no-bit : (k j x : ℕ) → has_bit x k ≡ false → has_bit x j ≡ pick (same j k) false (has_bit x j)
no-bit k j x h = go (same j k) refl
  where
    go : (t : Bool) → same j k ≡ t → has_bit x j ≡ pick t false (has_bit x j)
    go true p = ap (has_bit x) (same_true j k p) ∙ h
    go false p = refl

-- 1 shifted by k
pub one_shifted : (k : ℕ) → k < 64 → 1 * 2 ^ k % 2 ^ 64 ≡ 2 ^ k
one_shifted k h = rw one-mul (mod-eq_of_lt (pow-lt h))
