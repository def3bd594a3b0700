-- Values of a name: public ones by a set, then private ones that follow one another. They are gone through from the first on, one by one or run by run.
use Rattle.std.specs.Prelude.{◌≡◌, true, false, List, ◌++◌, ℕ, ◌+◌, ◌-◌, ◌≤◌, ◌<◌, ◌^◌, drop}
use Rattle.lists.specs.Lists.{from, range, keep}
use Rattle.places.specs.Sets.{bit_at}
use Rattle.places.specs.Inner.Plan.{reached}
use Rattle.places.specs.declared.reach.Reach.{Reach}
use Rattle.builder.specs.declared.spans.Values.{Values}
use Rattle.builder.specs.declared.spans.Span.{Span}

unfoldable pub values_in : Values → List ℕ
values_in x = keep (bit_at x.set) (range 64) ++ from x.low (x.end - x.low)

-- few names and values
pub record Narrow (x : Values) : Type 0 where
  pub small : x.set < 4294967296
  pub rises : x.low ≤ x.end
  pub few : x.end ≤ 64

-- with p public names: the set has no other number, and no private value is one of them
pub record Parted (p : ℕ) (x : Values) : Type 0 where
  pub small : x.set < 2 ^ p
  pub above : p ≤ x.low

-- a reach with p public and n private values, and the values by it
pub record Fits (p n : ℕ) (r : Reach) : Type 0 where
  pub few-publics : p ≤ 32
  pub few-privates : n ≤ 32
  pub small : r.publics < 2 ^ p

pub record ByReach (p n : ℕ) (r : Reach) (x : Values) : Type 0 where
  pub narrow : Narrow x
  pub parted : Parted p x
  pub is : values_in x ≡ reached p n r

-- the first numbers of a set that follow one another: none is below, and all of them are in it
pub record Ones (set low count : ℕ) : Type 0 where
  pub none : (k : ℕ) → k < low → bit_at set k ≡ false
  pub all : (k : ℕ) → low ≤ k → k < low + count → bit_at set k ≡ true

-- the first run of values: of the set, or else all private ones
pub record Run (x : Values) (s : Span) : Type 0 where
  pub some : 0 < s.count
  pub public : (x.set ≡ 0 → ⊥) → Ones x.set s.low s.count
  pub private : x.set ≡ 0 → (s.low ≡ x.low) × (s.count ≡ x.end - x.low)

-- the values behind the first n
pub record Behind (x : Values) (n : ℕ) (y : Values) : Type 0 where
  pub narrow : Narrow y
  pub parted : (p : ℕ) → Parted p x → Parted p y
  pub is : values_in y ≡ drop n (values_in x)
