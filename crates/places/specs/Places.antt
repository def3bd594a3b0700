-- The places of a net (document 01, Places). The number of a place is its index in the list.
use Rattle.std.specs.Prelude.{ℕ, suc, ◌+◌, Bool, true, false, ◌&&◌, ◌||◌, List, [], ◌++◌, map, length, nat_lt}
use Rattle.lists.specs.Lists.{pick, same, from, range, flat, some, keep, member}
use Rattle.scheme.specs.Scheme.{Scheme, Node, stop, choice, new, call}
use Rattle.places.specs.Values.{Values, private_value_list, values_of, private_values_of, shares}

-- [x=v], [x≠v], [*≠v], and control place k of a node
pub data Place : Type 0 where
  equals : ℕ → ℕ → Place
  differs : ℕ → ℕ → Place
  free : ℕ → Place
  control : ℕ → ℕ → Place

module _ (S : Scheme) where
  -- "control places by node: Choice and New one; Stop a release place per held name, then its final place; Call its own, a copy place per formal,
  -- a release place per held name"
  abbrev pub controls_at : ℕ → Node → ℕ
  controls_at n stop = suc (length (S.held n))
  controls_at n (choice f c) = 1
  controls_at n (new r l) = 1
  controls_at n (call d) = suc (length (S.formals d) + length (S.held n))

  unfoldable pub controls : ℕ → ℕ
  controls n = controls_at n (S.node n)

  unfoldable pub control_places : List Place
  control_places = flat (λ n. map (control n) (range (controls n))) (range S.nodes)

module _ (S : Scheme) (U : Values) where
  -- "input or formal x has [x=v] for the P+N values, then [x≠n] for N; restricted r has [r=n] for N". "Values outside a name's reach have no place"
  unfoldable pub row : ℕ → List Place
  row x = map (equals x) (values_of S U x) ++ pick (S.restricted x) [] (map (differs x) (private_values_of S U x))

  -- "Per bound name in order", "Then [*≠n] for N"
  unfoldable pub rows : List Place
  rows = flat row (from S.publics S.bounds) ++ map free (private_value_list S U)

  -- "channel value i common to both". "A channel value is private only if both reaches share a restricted name."
  abbrev pub is_common : ℕ → ℕ → ℕ → Bool
  is_common a e i = member i (values_of S U e) && (nat_lt i S.publics || shares S U a e)

  abbrev pub common : ℕ → ℕ → List ℕ
  common a e = keep (is_common a e) (values_of S U a)

  -- "Then control places by node"
  unfoldable pub places : List Place
  places = rows ++ control_places S

  -- "Initially marked: every [x≠n], every [*≠n], each entry root's first place."
  abbrev pub is_initial : Place → Bool
  is_initial (equals x v) = false
  is_initial (differs x v) = true
  is_initial (free v) = true
  is_initial (control n k) = same k 0 && some (λ t. same n (S.root (S.entry t))) (range S.threads)
