-- The word of a transition told as word and bit of a set, and of a number that was counted modulo 2⁶⁴.
use mathlib.Core.Path.{◌≡◌}
use Prim.Native.Nat.{ℕ, ◌+◌, ◌*◌, ◌%◌, ◌^◌}
use native.Mathlib.Omega.{arith}
use Rattle.capi.specs.Returned.{packed}

pub packed-at : (word bit : ℕ) → packed (word % 1125899906842624 * 64 + bit) 0 ≡ packed (64 * word + bit) 0
unfolding packed
packed-at word bit = let e : (word % 1125899906842624 * 64 + bit) % 2 ^ 56 ≡ (64 * word + bit) % 2 ^ 56 = omega arith in rw e

pub packed-number : (n : ℕ) → packed (n % 2 ^ 64) 0 ≡ packed n 0
unfolding packed
packed-number n = let e : n % 2 ^ 64 % 2 ^ 56 ≡ n % 2 ^ 56 = omega arith in rw e
