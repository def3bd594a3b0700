-- The places marked at first, by number.
use Rattle.std.proofs.Common.{◌≡◌, ℕ, zero, suc, ◌+◌, ◌-◌, ◌≤◌, Bool, true, false, List, [], ◌∷◌, ◌++◌, map, length, sym, refl, ap, ◌∙◌, append_assoc, arith}
use lib.ListN.{length-map}
use Rattle.lists.specs.Lists.{pick, from, range, flat, positions_from, positions}
use Rattle.lists.proofs.Tests.{same_self, same-no}
use Rattle.lists.proofs.Ranges.{from-length}
use Rattle.lists.proofs.Members.{flat-same}
use Rattle.lists.proofs.Positions.{positions-append, positions-all, positions-none, positions-flat}
use Rattle.scheme.specs.Scheme.{Scheme, Node, stop, choice, new, call}
use Rattle.places.specs.Values.{Values, private_value_list, values_of, private_values_of}
use Rattle.places.specs.Places.{equals, differs, free, control, controls_at, controls, control_places, row, rows, places, is_initial}
use Rattle.places.specs.Rows.{row_start_of, free_start_of, control_start}
use Rattle.places.specs.Inner.Arcs.{starts_at, initial_numbers}
use Rattle.places.proofs.Rows.{row-length, row_first, row_next, all-rows, rows-length, control-next}

module _ (S : Scheme) (U : Values) where
  row-initial : (x : ℕ) → positions_from (is_initial S U) (row_start_of S U x) (row S U x)
      ≡ pick (S.restricted x) [] (from (row_start_of S U x + length (values_of S U x)) (length (private_values_of S U x)))
  unfolding row positions_from
  row-initial x =
      positions-append (is_initial S U) (row_start_of S U x) (map (equals x) (values_of S U x)) (pick (S.restricted x) [] (map (differs x) (private_values_of S U x)))
      ∙ rw (positions-none (is_initial S U) (equals x) (λ v. refl) (row_start_of S U x) (values_of S U x), length-map (values_of S U x) (equals x))
      (go (S.restricted x))
    where
      go : (b : Bool) → positions_from (is_initial S U) (row_start_of S U x + length (values_of S U x)) (pick b [] (map (differs x) (private_values_of S U x)))
          ≡ pick b [] (from (row_start_of S U x + length (values_of S U x)) (length (private_values_of S U x)))
      go true = refl
      go false = positions-all (is_initial S U) (differs x) (λ v. refl) (row_start_of S U x + length (values_of S U x)) (private_values_of S U x)

  -- a node has a first place
  pub some-control : (n : ℕ) → controls S n ≡ suc (controls S n - 1)
  unfolding controls
  some-control n = go (S.node n)
    where
      go : (ν : Node) → controls_at S n ν ≡ suc (controls_at S n ν - 1)
      go stop = omega arith
      go (choice f c) = refl
      go (new r l) = refl
      go (call d) = omega arith

  later-none : (n i a k : ℕ) → 1 ≤ a → positions_from (is_initial S U) i (map (control n) (from a k)) ≡ []
  unfolding positions_from from
  later-none n i a zero h = refl
  later-none n i a (suc k) h = rw (same-no a 0 (λ e. omega arith)) (later-none n (i + 1) (a + 1) k (omega arith))

  control-initial : (n : ℕ) → positions_from (is_initial S U) (control_start S U n) (map (control n) (range (controls S n)))
      ≡ pick (starts_at S U n) (control_start S U n ∷ []) []
  unfolding positions_from from
  control-initial n =
      let k = controls S n - 1 in
      let z : 0 + 1 ≡ 1 = refl in
      rw (some-control n, same_self 0, later-none n (control_start S U n + 1) 1 k (omega arith))

  -- the place of a net's initial list, in order
  pub initial-numbers : positions (is_initial S U) (places S U) ≡ initial_numbers S U
  unfolding places rows control_places initial_numbers
  initial-numbers =
      let q = is_initial S U in
      let xs = flat (row S U) (from S.publics S.bounds) in
      let fs = map free (private_value_list S U) in
      let cs = flat (λ n. map (control n) (range (controls S n))) (range S.nodes) in
      let first : 0 + length xs ≡ free_start_of S U = omega (arith, all-rows S U) in
      let second : 0 + length (xs ++ fs) ≡ control_start S U 0 = omega (arith, rows-length S U) in
      let a : positions_from q 0 xs
      ≡ flat (λ x. pick (S.restricted x) [] (from (row_start_of S U x + length (values_of S U x)) (length (private_values_of S U x))))
      (from S.publics S.bounds) =
      ap (λ (s : ℕ). positions_from q s xs) (sym (row_first S U))
      ∙ positions-flat q (row S U) (row_start_of S U) S.publics (λ x h. omega (arith, row_next S U x h, row-length S U x)) S.publics S.bounds (omega arith)
      ∙ flat-same (λ x. positions_from q (row_start_of S U x) (row S U x))
      (λ x. pick (S.restricted x) [] (from (row_start_of S U x + length (values_of S U x)) (length (private_values_of S U x)))) (from S.publics S.bounds)
      (λ x m. row-initial x) in
      let b : positions_from q (0 + length xs) fs ≡ from (free_start_of S U) U.privates =
      positions-all q free (λ v. refl) (0 + length xs) (private_value_list S U) ∙ rw (first, from-length S.publics U.privates) in
      let c : positions_from q (0 + length (xs ++ fs)) cs ≡ flat (λ n. pick (starts_at S U n) (control_start S U n ∷ []) []) (range S.nodes) =
      ap (λ (s : ℕ). positions_from q s cs) second
      ∙ positions-flat q (λ n. map (control n) (range (controls S n))) (control_start S U) 0
      (λ n h. omega (arith, control-next S U n, length-map (range (controls S n)) (control n), from-length 0 (controls S n))) 0 S.nodes (omega arith)
      ∙ flat-same (λ n. positions_from q (control_start S U n) (map (control n) (range (controls S n)))) (λ n. pick (starts_at S U n) (control_start S U n ∷ []) [])
      (range S.nodes) (λ n m. control-initial n) in
      positions-append q 0 (xs ++ fs) cs ∙ ap (λ (l : List ℕ). l ++ positions_from q (0 + length (xs ++ fs)) cs) (positions-append q 0 xs fs)
      ∙ rw (a, b, c) (simp append_assoc)
