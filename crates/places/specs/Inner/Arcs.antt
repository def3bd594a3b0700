-- The arcs of a description as the numbers of the places that it names, put in order, and the numbers of the places marked at first.
use Rattle.std.specs.Prelude.{ℕ, ◌+◌, Bool, not, ◌&&◌, List, [], ◌∷◌, ◌++◌, map, length, nat_le, nat_lt}
use Rattle.lists.specs.Lists.{pick, same, from, range, keep, flat, some}
use Rattle.scheme.specs.Scheme.{Scheme}
use Rattle.places.specs.Values.{Values, values_of, private_values_of}
use Rattle.places.specs.Places.{Place, equals, differs, free, control, controls}
use Rattle.places.specs.Rows.{row_start_of, free_start_of, control_start, number_of}
use Rattle.places.specs.Transitions.{Move, Test, Command, skip, take, release, Description}

-- a number put into a list that ascends, if it does not stand there
unfoldable pub insert : ℕ → List ℕ → List ℕ
insert k [] = k ∷ []
insert k (x ∷ xs) = pick (nat_lt k x) (k ∷ x ∷ xs) (pick (same k x) (x ∷ xs) (x ∷ insert k xs))

unfoldable pub sorted : List ℕ → List ℕ
sorted [] = []
sorted (k ∷ ks) = insert k (sorted ks)

module _ (S : Scheme) where
  abbrev pub all_differ : ℕ → List Place
  all_differ v = map (λ x. differs x v) (from S.publics S.bounds)

  -- the places that a command takes, and those that it gives, if the net has them
  abbrev pub taken_places : Command → List Place
  taken_places skip = []
  taken_places (take y v) = pick (S.restricted y) (free v ∷ all_differ v) (differs y v ∷ [])
  taken_places (release z v) = equals z v ∷ []

  abbrev pub given_places : Command → List Place
  given_places skip = []
  given_places (take y v) = equals y v ∷ pick (S.restricted y) (all_differ v) []
  given_places (release z v) = pick (S.restricted z) (free v ∷ []) (differs z v ∷ [])

  abbrev pub left_places : List Move → List Place
  left_places ms = map (λ m. control m.from_node m.from_index) ms

  abbrev pub reached_places : List Move → List Place
  reached_places ms = map (λ m. control m.to_node m.to_index) ms

  abbrev pub test_places : List Test → List Place
  test_places ts = map (λ t. equals t.name t.value) ts

  abbrev pub input_places : Description → List Place
  input_places d = left_places d.moves ++ (test_places d.tests ++ taken_places d.command)

  abbrev pub output_places : Description → List Place
  output_places d = reached_places d.moves ++ (test_places d.tests ++ given_places d.command)

module _ (S : Scheme) (U : Values) where
  -- the net has this place
  abbrev pub exists : Place → Bool
  exists (equals x v) = nat_le S.publics x && (nat_lt x (S.publics + S.bounds) && (nat_lt v (S.publics + U.privates) && U.reach x v))
  exists (differs x v) =
      nat_le S.publics x &&
      (nat_lt x (S.publics + S.bounds) && (not (S.restricted x) && (nat_le S.publics v && (nat_lt v (S.publics + U.privates) && U.reach x v))))
  exists (free v) = nat_le S.publics v && nat_lt v (S.publics + U.privates)
  exists (control n k) = nat_lt n S.nodes && nat_lt k (controls S n)

  -- the numbers of those of the places that the net has
  unfoldable pub numbers_for : List Place → List ℕ
  numbers_for ps = sorted (map (number_of S U) (keep exists ps))

  -- a thread's entry has its root here
  abbrev pub starts_at : ℕ → Bool
  starts_at n = some (λ t. same n (S.root (S.entry t))) (range S.threads)

  -- "Initially marked: every [x≠n], every [*≠n], each entry root's first place."
  unfoldable pub initial_numbers : List ℕ
  initial_numbers =
      flat (λ x. pick (S.restricted x) [] (from (row_start_of S U x + length (values_of S U x)) (length (private_values_of S U x))))
      (from S.publics S.bounds) ++
      (from (free_start_of S U) U.privates ++ flat (λ n. pick (starts_at n) (control_start S U n ∷ []) []) (range S.nodes))
