-- The names held where the threads stand, by the node and the index of each thread's place in lent words.
use Rattle.std.specs.Prelude.{◌≡◌, List, ℕ, ◌≤◌, ◌<◌, length, set}
use Rattle.lists.specs.Lists.{word, range, flat}
use Rattle.scheme.specs.Words.{publics, names, threads}
use Rattle.scheme.specs.Scheme.{scheme}
use Rattle.process.specs.Inner.Values.{value_at}
use Rattle.places.specs.Inner.Plan.{reached}
use Rattle.places.specs.declared.reach.Reach.{Reach}
use Rattle.readback.specs.Configurations.{held_here}
use Rattle.readback.specs.Inner.Showing.{spot_at}
use Rattle.readback.specs.Inner.Standing.{value_of, values_at}

unfoldable pub held_all : List ℕ → List ℕ → List ℕ → List ℕ
held_all w places indexes = flat (λ t. held_here (scheme w) (spot_at places indexes t)) (range (threads w))

-- a bound name of the table
abbrev pub IsName : List ℕ → ℕ → Type 0
IsName w x = (publics w ≤ x) × (x < names w)

-- value k of a reach with p public values, however many private ones there are
abbrev pub ValueAt : ℕ → Reach → ℕ → ℕ → Type 0
ValueAt p r k v = (n : ℕ) → k < length (reached p n r) → v ≡ word (reached p n r) k

-- the word of a name's value is put where the name stands
pub record Filled (w m : List ℕ) (x : ℕ) (before after : List ℕ) : Type 0 where
  pub value : ℕ
  pub put-there : after ≡ set before x value
  pub is : value_of (values_at (scheme w) m x) ≡ value_at value

-- the values of the bound names below e
abbrev pub ValuesBelow : List ℕ → List ℕ → List ℕ → ℕ → Type 0
ValuesBelow w m values e = (x : ℕ) → publics w ≤ x → x < e → value_of (values_at (scheme w) m x) ≡ value_at (word values x)
