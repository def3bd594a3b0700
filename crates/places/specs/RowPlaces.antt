-- How many row places a net has (document 01, Places, by the reaches of document 02, Item 4).
use Rattle.std.specs.Prelude.{◌≡◌, ℕ, ◌+◌, ◌*◌, map, length}
use Rattle.lists.specs.Lists.{pick, from, range, keep, total}
use Rattle.scheme.specs.Scheme.{Scheme}
use Rattle.places.specs.Reach.{values_for, has_private_values}
use Rattle.places.specs.Places.{rows}

module _ (S : Scheme) where
  -- "input or formal x has [x=v] …, then [x≠n]": the publics in its reach and, if a restricted name is in it, N private values twice.
  -- "restricted r has [r=n] for N"
  abbrev pub row_places_of : ℕ → ℕ
  row_places_of x =
      pick (S.restricted x) (values_for S).privates
      (length (keep ((values_for S).origins x) (range S.publics)) + pick (has_private_values S x) (2 * (values_for S).privates) 0)

  -- "Per bound name in order", "Then [*≠n] for N."
  abbrev pub CountOfRows : Type 0
  CountOfRows = length (rows S (values_for S)) ≡ total (map row_places_of (from S.publics S.bounds)) + (values_for S).privates
