-- Where the places of a net stand (document 01, Places): the start of each row, of [*≠n] and of a node's control places, and the number of a place.
use Rattle.std.specs.Prelude.{◌≡◌, ℕ, ◌+◌, ◌-◌, ◌<◌, ◌≤◌, true, false, map, length}
use Rattle.lists.specs.Lists.{pick, from, range, keep, total}
use Rattle.scheme.specs.Scheme.{Scheme}
use Rattle.places.specs.Values.{Values, values_of, private_values_of}
use Rattle.places.specs.Places.{Place, equals, differs, free, control, controls}

module _ (S : Scheme) (U : Values) where
  -- "input or formal x has [x=v] for the P+N values, then [x≠n] for N; restricted r has [r=n] for N"
  unfoldable pub row_length : ℕ → ℕ
  row_length x = length (values_of S U x) + pick (S.restricted x) 0 (length (private_values_of S U x))

  -- "Per bound name in order": a row starts behind the rows of the bound names below
  unfoldable pub row_start_of : ℕ → ℕ
  row_start_of x = total (map row_length (from S.publics (x - S.publics)))

  -- "Then [*≠n] for N."
  unfoldable pub free_start_of : ℕ
  free_start_of = row_start_of (S.publics + S.bounds)

  -- "Then control places by node"
  unfoldable pub control_start : ℕ → ℕ
  control_start n = free_start_of + U.privates + total (map (controls S) (range n))

  -- "Values run upward, publics first.": a value stands behind the values below it that the name may hold
  abbrev pub number_of : Place → ℕ
  number_of (equals x v) = row_start_of x + length (keep (U.reach x) (range v))
  number_of (differs x v) = row_start_of x + (length (values_of S U x) + length (keep (U.reach x) (from S.publics (v - S.publics))))
  number_of (free v) = free_start_of + (v - S.publics)
  number_of (control n k) = control_start n + k

  -- x is a bound name, v a value, v a private value
  abbrev pub IsBound : ℕ → Type 0
  IsBound x = (S.publics ≤ x) × (x < S.publics + S.bounds)

  abbrev pub IsValue : ℕ → Type 0
  IsValue v = v < S.publics + U.privates

  abbrev pub IsPrivate : ℕ → Type 0
  IsPrivate v = (S.publics ≤ v) × (v < S.publics + U.privates)

  -- the places that the net has
  pub data Exists : Place → Type 0 where
    has-equals : {x v : ℕ} → IsBound x → IsValue v → U.reach x v ≡ true → Exists (equals x v)
    has-differs : {x v : ℕ} → IsBound x → S.restricted x ≡ false → IsPrivate v → U.reach x v ≡ true → Exists (differs x v)
    has-free : {v : ℕ} → IsPrivate v → Exists (free v)
    has-control : {n k : ℕ} → n < S.nodes → k < controls S n → Exists (control n k)
