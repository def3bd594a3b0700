-- Laws of numbers in decimal: what the last digit leaves.
use mathlib.Core.Path.{◌≡◌, refl}
use mathlib.Core.Bool.{Bool, true, false}
use mathlib.Core.List.{[], ◌∷◌, ◌++◌}
use Prim.Native.Nat.{ℕ, zero, suc, ◌+◌, ◌/◌, ◌%◌, ◌≤◌, ◌<◌}
use native.Mathlib.Omega.{arith}
use lib.Dec.{ltb}
use borrow.Author.Tests.{ltb-false, lt-ltb, le-ltb}
use Rattle.print.specs.Text.{digits_of, decimal}

-- more digits than the number has make no difference
enough : (k l n : ℕ) → n < k → n < l → digits_of k n ≡ digits_of l n
unfolding digits_of
enough zero l n h h' = absurd (omega arith)
enough (suc k) zero n h h' = absurd (omega arith)
enough (suc k) (suc l) n h h' = go (λ up. enough k l (n / 10) (omega arith) (omega arith)) (ltb n 10) refl
  where
    go : (10 ≤ n → digits_of k (n / 10) ≡ digits_of l (n / 10)) → (t : Bool) → ltb n 10 ≡ t → digits_of (suc k) n ≡ digits_of (suc l) n
    go up true e = rw (e, digits_of)
    go up false e = rw (e, digits_of, up (ltb-false n 10 e))

pub decimal-one : (n : ℕ) → n < 10 → decimal n ≡ (48 + n) ∷ []
unfolding digits_of
decimal-one n h = rw (lt-ltb n 10 h, digits_of)

pub decimal-more : (n : ℕ) → 10 ≤ n → decimal n ≡ decimal (n / 10) ++ ((48 + n % 10) ∷ [])
unfolding digits_of
decimal-more n h = rw (le-ltb n 10 h, digits_of, enough n (suc (n / 10)) (n / 10) (omega arith) (omega arith))
