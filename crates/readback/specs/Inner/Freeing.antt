-- The private values that restricted names have, by the words of their values, and sets of private values, which are counted from 0.
use Rattle.std.specs.Prelude.{◌≡◌, true, ◌&&◌, ◌||◌, List, ℕ, ◌+◌, ◌-◌, ◌≤◌, ltb, length}
use Rattle.lists.specs.Lists.{pick, same, word}
use Rattle.scheme.specs.Words.{publics, names}
use Rattle.scheme.specs.Scheme.{scheme}
use Rattle.places.specs.Sets.{bit_at}
use Rattle.readback.specs.Inner.Hits.{token}
use Rattle.readback.specs.Inner.Standing.{values_at}
use Rattle.readback.specs.Inner.Holding.{IsName, ValuesBelow}

-- the values of the bound names, of which none has two
pub record ValuesOnce (w m values : List ℕ) : Type 0 where
  pub are : ValuesBelow w m values (names w)
  pub once : (x : ℕ) → IsName w x → length (values_at (scheme w) m x) ≤ 1

-- the word of a restricted name is of a private value, or of none
abbrev pub PrivateWord : List ℕ → List ℕ → ℕ → Type 0
PrivateWord w values x = (scheme w).restricted x ≡ true → publics w ≤ word values x

-- the private value of a restricted name; 64 or more where it has none, and for other names
abbrev pub taken_by : List ℕ → List ℕ → ℕ → ℕ
taken_by w values x = pick ((scheme w).restricted x) (word values x - publics w) 64

-- the numbers of a set, and n where it is below 64
abbrev pub With : ℕ → ℕ → ℕ → Type 0
With set n r = (k : ℕ) → bit_at r k ≡ (bit_at set k || (ltb n 64 && same n k))

-- the marked ones of `count` places from `start` on
abbrev pub MarkedSet : List ℕ → ℕ → ℕ → ℕ → Type 0
MarkedSet m start count set = (k : ℕ) → bit_at set k ≡ (ltb k count && token m (start + k))
