-- Sets of small numbers as the binary digits of a number.
use Rattle.std.specs.Prelude.{◌≡◌, ℕ, zero, suc, ◌+◌, ◌-◌, ◌*◌, ◌/◌, ◌%◌, ◌^◌, Bool, Option, MatchOption, bit_and}
use lib.Count.{count_trailing_zeros}
use Rattle.lists.specs.Lists.{bit, same}

-- number k is in the set
unfoldable pub bit_at : ℕ → ℕ → Bool
bit_at w k = same (w / 2 ^ k % 2) 1

-- the lowest number is taken out of a set; there is none where the set is empty
abbrev pub TakesLowest : ℕ → Option ℕ → ℕ → Type 0
TakesLowest set r left = MatchOption r (set ≡ 0) (λ x. (set ≡ 0 → ⊥) × (x ≡ count_trailing_zeros 64 set) × (left ≡ bit_and set (set - 1)))

-- the set of the numbers below n that pass a test: the first digit tells of 0, the others of those above
unfoldable pub set_from : (ℕ → Bool) → ℕ → ℕ
set_from f zero = 0
set_from f (suc n) = bit (f 0) + 2 * set_from (λ k. f (suc k)) n
