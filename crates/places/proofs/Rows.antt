-- The row facts, for any scheme and any choice of values (any P, any N): where rows, [*≠n] and control places start, which place stands at which number.
use Rattle.std.proofs.Common.{◌≡◌, ℕ, ◌+◌, ◌-◌, ◌<◌, ◌≤◌, Bool, true, false, ◌⊎◌, List, [], ◌++◌, map, length, get_or, sym, refl, ap, ◌∙◌, inl, inr, append_assoc, arith, length-append, le-ltb}
use lib.ListN.{length-map}
use lib.Seq.{slice}
use Rattle.lists.specs.Lists.{pick, from, range, keep, flat, total}
use Rattle.lists.proofs.Tests.{false-true, pick_true, pick-false}
use Rattle.lists.proofs.Ranges.{from-length, flat-split}
use Rattle.lists.proofs.Members.{map_same, flat-length}
use Rattle.lists.proofs.Sums.{total-next}
use Rattle.lists.proofs.Slices.{slice-between}
use Rattle.scheme.specs.Scheme.{Scheme}
use Rattle.places.specs.Values.{Values, private_value_list, values_of, private_values_of}
use Rattle.places.specs.Places.{Place, equals, differs, free, control, controls, control_places, row, rows, places}
use Rattle.places.specs.Rows.{row_length, row_start_of, free_start_of, control_start, number_of, IsBound, Exists}
use Rattle.places.specs.Rows.{has-equals, has-differs, has-free, has-control}
use Rattle.lists.proofs.Numbered.{Among, Stands, Element, Numbered, numbered-like, numbered-none, numbered-append, numbered-flat, numbered-map}
use Rattle.lists.proofs.Numbered.{numbered-keep}

module _ (S : Scheme) (U : Values) where
  -- ---- lengths and starts

  -- a bound name's values
  pub values-bound : (x : ℕ) → S.publics ≤ x → values_of S U x ≡ keep (U.reach x) (range (S.publics + U.privates))
  unfolding values_of
  values-bound x h = rw (le-ltb x S.publics h)

  pub row-length : (x : ℕ) → length (row S U x) ≡ row_length S U x
  unfolding row row_length
  row-length x =
      length-append (map (equals x) (values_of S U x)) (pick (S.restricted x) [] (map (differs x) (private_values_of S U x)))
      ∙ rw (length-map (values_of S U x) (equals x)) (ap (λ (k : ℕ). length (values_of S U x) + k) (go (S.restricted x)))
    where
      go : (b : Bool) → length (pick b [] (map (differs x) (private_values_of S U x))) ≡ pick b 0 (length (private_values_of S U x))
      go true = refl
      go false = length-map (private_values_of S U x) (differs x)

  pub row_first : row_start_of S U S.publics ≡ 0
  unfolding row_start_of total from
  row_first = let e : S.publics - S.publics ≡ 0 = omega arith in rw e

  pub row_next : (x : ℕ) → S.publics ≤ x → row_start_of S U (x + 1) ≡ row_start_of S U x + row_length S U x
  unfolding row_start_of
  row_next x h = total-next (row_length S U) S.publics x h

  pub free-start : free_start_of S U ≡ total (map (row_length S U) (from S.publics S.bounds))
  unfolding free_start_of row_start_of
  free-start = let e : S.publics + S.bounds - S.publics ≡ S.bounds = omega arith in rw e

  pub control-first : control_start S U 0 ≡ free_start_of S U + U.privates
  unfolding control_start total from
  control-first = omega arith

  pub control-next : (n : ℕ) → control_start S U (n + 1) ≡ control_start S U n + controls S n
  unfolding control_start
  control-next n =
      let e : n + 1 - 0 ≡ n + 1 = omega arith in
      let g : n - 0 ≡ n = omega arith in
      omega (arith, rw (e, g) at (total-next (controls S) 0 n (omega arith)))

  -- the rows before x fill the numbers below its start
  rows_before : (n : ℕ) → length (flat (row S U) (from S.publics n)) ≡ total (map (row_length S U) (from S.publics n))
  rows_before n =
      flat-length (row S U) (from S.publics n) ∙ ap total (map_same (λ x. length (row S U x)) (row_length S U) (from S.publics n) row-length)

  pub before-row : (x : ℕ) → length (flat (row S U) (from S.publics (x - S.publics))) ≡ row_start_of S U x
  unfolding row_start_of
  before-row x = rows_before (x - S.publics)

  pub all-rows : length (flat (row S U) (from S.publics S.bounds)) ≡ free_start_of S U
  unfolding free_start_of row_start_of
  all-rows = let e : S.publics + S.bounds - S.publics ≡ S.bounds = omega arith in rw e (rows_before S.bounds)

  free-length : length (map free (private_value_list S U)) ≡ U.privates
  free-length = length-map (private_value_list S U) free ∙ from-length S.publics U.privates

  -- rows and then [*≠n] fill the numbers below the first control place
  pub rows-length : length (rows S U) ≡ control_start S U 0
  unfolding rows
  rows-length =
      omega (arith, length-append (flat (row S U) (from S.publics S.bounds)) (map free (private_value_list S U)), all-rows, free-length, control-first)

  abbrev controls_of : ℕ → List Place
  controls_of n = map (control n) (range (controls S n))

  controls-length : (n : ℕ) → length (controls_of n) ≡ controls S n
  controls-length n = length-map (range (controls S n)) (control n) ∙ from-length 0 (controls S n)

  controls-before : (n : ℕ) → length (flat controls_of (range n)) ≡ total (map (controls S) (range n))
  controls-before n =
      flat-length controls_of (range n) ∙ ap total (map_same (λ n. length (controls_of n)) (controls S) (range n) controls-length)

  pub places-length : length (places S U) ≡ control_start S U S.nodes
  unfolding places control_places control_start
  places-length =
      omega (arith, length-append (rows S U) (flat controls_of (range S.nodes)), rows-length, control-first, controls-before S.nodes)

  -- ---- the parts of the list: rows, [*≠n] and control places follow one another without gap or overlap

  pub row-slice : (x : ℕ) → IsBound S U x → slice (row_start_of S U x) (row_start_of S U (x + 1)) (places S U) ≡ row S U x
  unfolding places rows
  row-slice x h =
      let a = flat (row S U) (from S.publics (x - S.publics)) in
      let b = flat (row S U) (from (x + 1) (S.publics + S.bounds - (x + 1))) in
      let c = map free (private_value_list S U) in
      ap (slice (row_start_of S U x) (row_start_of S U (x + 1)))
      (ap (λ (l : List Place). (l ++ c) ++ control_places S) (flat-split (row S U) S.publics S.bounds x h.0 h.1) ∙ simp append_assoc)
      ∙ slice-between a (row S U x) (b ++ (c ++ control_places S)) (row_start_of S U x) (row_start_of S U (x + 1)) (before-row x)
      (omega (arith, row-length x, row_next x h.0))

  pub free-slice : slice (free_start_of S U) (control_start S U 0) (places S U) ≡ map free (private_value_list S U)
  unfolding places rows
  free-slice =
      let a = flat (row S U) (from S.publics S.bounds) in
      ap (slice (free_start_of S U) (control_start S U 0)) (append_assoc a (map free (private_value_list S U)) (control_places S))
      ∙ slice-between a (map free (private_value_list S U)) (control_places S) (free_start_of S U) (control_start S U 0) all-rows
      (omega (arith, free-length, control-first))

  pub control-slice : (n : ℕ) → n < S.nodes → slice (control_start S U n) (control_start S U (n + 1)) (places S U) ≡ controls_of n
  unfolding places control_places control_start
  control-slice n h =
      let e : n - 0 ≡ n = omega arith in
      let a = flat controls_of (range n) in
      let b = flat controls_of (from (n + 1) (0 + S.nodes - (n + 1))) in
      let s = rw e at (flat-split controls_of 0 S.nodes n (omega arith) (omega arith)) in
      ap (slice (control_start S U n) (control_start S U (n + 1)))
      (ap (λ (l : List Place). rows S U ++ l) s ∙ sym (append_assoc (rows S U) a (controls_of n ++ b)))
      ∙ slice-between (rows S U ++ a) (controls_of n) b (control_start S U n) (control_start S U (n + 1))
      (omega (arith, length-append (rows S U) a, rows-length, control-first, controls-before n))
      (omega (arith, controls-length n, control-next n))

  -- ---- which place stands at which number; d stands past the end of the list

  module _ (d : Place) where
    abbrev Holds : (Place → Type 0) → ℕ → List Place → Type 0
    Holds = Numbered d (number_of S U)

    abbrev Equal : ℕ → Place → Type 0
    Equal x = Among (λ v p. (U.reach x v ≡ true) × (p ≡ equals x v)) 0 (S.publics + U.privates)

    abbrev Different : ℕ → Place → Type 0
    Different x = Among (λ v p. (U.reach x v ≡ true) × (p ≡ differs x v)) S.publics U.privates

    abbrev InRow : ℕ → Place → Type 0
    InRow x p = Equal x p ⊎ ((S.restricted x ≡ false) × Different x p)

    equal-numbered : (x : ℕ) → S.publics ≤ x → Holds (Equal x) (row_start_of S U x) (map (equals x) (values_of S U x))
    equal-numbered x h =
        rw (values-bound x h) (numbered-keep d (number_of S U) (equals x) 0 (S.publics + U.privates) (row_start_of S U x) (U.reach x) index)
      where
        index : (v : ℕ) → 0 ≤ v → row_start_of S U x + length (keep (U.reach x) (range v)) ≡ row_start_of S U x + length (keep (U.reach x) (from 0 (v - 0)))
        index v l = let e : v - 0 ≡ v = omega arith in rw e

    different-numbered : (x : ℕ) → Holds (Different x) (row_start_of S U x + length (values_of S U x)) (map (differs x) (private_values_of S U x))
    unfolding private_values_of
    different-numbered x =
        numbered-keep d (number_of S U) (differs x) S.publics U.privates (row_start_of S U x + length (values_of S U x)) (U.reach x) (λ v l. omega arith)

    row-numbered : (x : ℕ) → S.publics ≤ x → Holds (InRow x) (row_start_of S U x) (row S U x)
    unfolding row
    row-numbered x h =
        numbered-append d (number_of S U) (Equal x) (λ p. (S.restricted x ≡ false) × Different x p) (row_start_of S U x) (map (equals x) (values_of S U x))
        (pick (S.restricted x) [] (map (differs x) (private_values_of S U x))) (equal-numbered x h)
        (rw (length-map (values_of S U x) (equals x)) (go (S.restricted x) refl))
      where
        go : (b : Bool) → S.restricted x ≡ b → Holds (λ p. (S.restricted x ≡ false) × Different x p) (row_start_of S U x + length (values_of S U x))
            (pick (S.restricted x) [] (map (differs x) (private_values_of S U x)))
        go true e =
            rw (pick_true [] (map (differs x) (private_values_of S U x)) e)
            (numbered-none d (number_of S U) (λ p. (S.restricted x ≡ false) × Different x p) (row_start_of S U x + length (values_of S U x))
            (λ p i. false-true i.0 e))
        go false e =
            rw (pick-false [] (map (differs x) (private_values_of S U x)) e)
            (numbered-like d (number_of S U) (λ p i. (e, i)) (λ p i. i.1) (different-numbered x))

    abbrev InRows : Place → Type 0
    InRows = Among InRow S.publics S.bounds

    abbrev Free : Place → Type 0
    Free = Among (λ v p. p ≡ free v) S.publics U.privates

    abbrev ControlOf : ℕ → Place → Type 0
    ControlOf n = Among (λ k p. p ≡ control n k) 0 (controls S n)

    abbrev Control : Place → Type 0
    Control = Among ControlOf 0 S.nodes

    rows-numbered : Holds InRows 0 (flat (row S U) (from S.publics S.bounds))
    rows-numbered =
        rw row_first at (numbered-flat d (number_of S U) (row S U) InRow (row_start_of S U) S.publics row-numbered
        (λ x h. omega (arith, row_next x h, row-length x)) S.publics S.bounds (omega arith))

    free-numbered : Holds Free (free_start_of S U) (map free (private_value_list S U))
    free-numbered = numbered-map d (number_of S U) free S.publics U.privates (free_start_of S U) (λ v l. refl)

    controls-numbered : Holds Control (control_start S U 0) (control_places S)
    unfolding control_places
    controls-numbered =
        numbered-flat d (number_of S U) controls_of ControlOf (control_start S U) 0
        (λ n h. numbered-map d (number_of S U) (control n) 0 (controls S n) (control_start S U n) (λ k l. omega arith))
        (λ n h. omega (arith, control-next n, controls-length n)) 0 S.nodes (omega arith)

    to : (p : Place) → (InRows p ⊎ Free p) ⊎ Control p → Exists S U p
    to p (inl (inl i)) = go i.gives
      where
        go : InRow i.source p → Exists S U p
        go (inl e) = rw e.gives.1 (has-equals {v = e.source} (i.low, i.high) (omega (arith, e.high)) e.gives.0)
        go (inr (r, e)) = rw e.gives.1 (has-differs (i.low, i.high) r (e.low, e.high) e.gives.0)
    to p (inl (inr i)) = rw i.gives (has-free (i.low, i.high))
    to p (inr i) = rw i.gives.gives (has-control {n = i.source} {k = i.gives.source} (omega (arith, i.high)) (omega (arith, i.gives.high)))

    of : (p : Place) → Exists S U p → (InRows p ⊎ Free p) ⊎ Control p
    of p (has-equals {x} {v} b u r) =
        inl (inl (record {
          source = x;
          low = b.0;
          high = b.1;
          gives = inl (record { source = v; low = omega arith; high = omega arith; gives = (r, refl) });
        }))
    of p (has-differs {x} {v} b n u r) =
        inl (inl (record {
          source = x;
          low = b.0;
          high = b.1;
          gives = inr (n, record { source = v; low = u.0; high = u.1; gives = (r, refl) });
        }))
    of p (has-free {v} u) = inl (inr (record { source = v; low = u.0; high = u.1; gives = refl }))
    of p (has-control {n} {k} l u) =
        inr (record {
          source = n;
          low = omega arith;
          high = omega arith;
          gives = record { source = k; low = omega arith; high = omega arith; gives = refl };
        })

    -- the places are just those that the net has, each at its number
    pub places-numbered : Holds (Exists S U) 0 (places S U)
    unfolding places rows
    places-numbered =
        numbered-like d (number_of S U) to of
        (numbered-append d (number_of S U) (λ p. InRows p ⊎ Free p) Control 0 (rows S U) (control_places S)
        (numbered-append d (number_of S U) InRows Free 0 (flat (row S U) (from S.publics S.bounds)) (map free (private_value_list S U)) rows-numbered
        (let e : 0 + length (flat (row S U) (from S.publics S.bounds)) ≡ free_start_of S U = omega (arith, all-rows) in rw e free-numbered))
        (let e : 0 + length (rows S U) ≡ control_start S U 0 = omega (arith, rows-length) in rw e controls-numbered))

    stands : (p : Place) → Exists S U p → Stands d (number_of S U) 0 (places S U) p
    stands = places-numbered.at

    pub place_at : (p : Place) → Exists S U p → get_or (places S U) (number_of S U p) d ≡ p
    place_at p h =
        let r = stands p h in
        let e : number_of S U p ≡ r.index = omega (arith, r.numbered) in
        ap (λ (k : ℕ). get_or (places S U) k d) e ∙ r.is

    pub number-below : (p : Place) → Exists S U p → number_of S U p < length (places S U)
    number-below p h = let r = stands p h in omega (arith, r.numbered, r.inside)

    -- every number is that of a place that the net has
    at-number : (k : ℕ) → (e : Element d (number_of S U) (Exists S U) 0 k) → e.element ≡ get_or (places S U) k d
    at-number k e =
        let n : number_of S U e.element ≡ k = omega (arith, e.number_is) in
        sym (place_at e.element e.has) ∙ ap (λ (k : ℕ). get_or (places S U) k d) n

    pub place-exists : (k : ℕ) → k < length (places S U) → Exists S U (get_or (places S U) k d)
    place-exists k l = let e = places-numbered.onto k l in rw (at-number k e) at e.has

    pub number_at : (k : ℕ) → k < length (places S U) → number_of S U (get_or (places S U) k d) ≡ k
    number_at k l =
        let e = places-numbered.onto k l in
        let n : number_of S U e.element ≡ k = omega (arith, e.number_is) in
        ap (number_of S U) (sym (at-number k e)) ∙ n

    -- no two places share a number, and no place stands at two
    pub number-unique : (p q : Place) → Exists S U p → Exists S U q → number_of S U p ≡ number_of S U q → p ≡ q
    number-unique p q h g e = sym (place_at p h) ∙ ap (λ (k : ℕ). get_or (places S U) k d) e ∙ place_at q g

    pub places-distinct : (i j : ℕ) → i < length (places S U) → j < length (places S U) → get_or (places S U) i d ≡ get_or (places S U) j d → i ≡ j
    places-distinct i j h l e = sym (number_at i h) ∙ ap (number_of S U) e ∙ number_at j l
