-- Reading a configuration's marking: the values of a bound name among the marked places are its value alone, and the spots of a thread its spot alone.
use Prim.Native.Nat.{ℕ, ◌+◌, ◌≤◌, ◌<◌}
use mathlib.Core.Path.{◌≡◌, refl, sym, ap, ◌∙◌, fun_ext}
use mathlib.Core.Logic.{◌≢◌, ◌⊎◌, inl, inr}
use mathlib.Core.Bool.{Bool, true, false}
use mathlib.Core.Option.{Option, none, some}
use mathlib.Core.List.{List, [], ◌∷◌, map, append-nil}
use native.Mathlib.Decide.{ℕ_discrete}
use lib.Dec.{ltb}
use borrow.Author.Tests.{ltb-true}
use Rattle.lists.specs.Lists.{pick, bit, same, from, range, keep, flat, Distinct}
use Rattle.lists.proofs.Tests.{and_left, and_right, same_self, same-no, not-true-false}
use Rattle.lists.proofs.Ranges.{member-from}
use Rattle.lists.proofs.Members.{distinct_from, distinct-keep, distinct-one}
use Rattle.scheme.specs.Scheme.{Scheme}
use Rattle.table.specs.Accepted.{Accepted}
use Rattle.places.specs.Values.{Values, values_of, private_value_list, private_values_of}
use Rattle.places.specs.Places.{Place, equals, differs, free, control, controls, control_places, row, rows, places}
use Rattle.readback.specs.Configurations.{Spot, spot, Configuration, is_spot}
use Rattle.readback.specs.Reading.{marked, spot_list, values_in, spots, values}
use Rattle.readback.proofs.Elements.{Element, no-element, append-element, map-element, flat-element, member-element}
use Rattle.readback.proofs.Sifted.{sift-append, sift-map, sift-flat, sift-none, flat-none, flat-only}
use Rattle.fidelity.specs.Inner.Marks.{holds, mark, WellFormed}
use Rattle.fidelity.specs.Inner.Standing.{marking_of}
use Rattle.fidelity.proofs.Basics.{same_spot-true}
use Rattle.fidelity.proofs.Listed.{below-range, takes-member}
use Rattle.fidelity.proofs.Places.{spot-test}

bit_test : (b : Bool) → same (bit b) 1 ≡ b
unfolding same
bit_test true = refl
bit_test false = refl

-- the places with a token are those that the test picks
marked-keep : (f : Place → Bool) (ps : List Place) → marked ps (map (λ p. bit (f p)) ps) ≡ keep f ps
unfolding marked keep
marked-keep f [] = refl
marked-keep f (p ∷ ps) = rw (bit_test (f p), marked-keep f ps)

module _ (S : Scheme) (U : Values) (A : Accepted S) where
  -- the marked places of a configuration
  abbrev pub marked_by : Configuration → List Place
  marked_by c = keep (mark S c) (places S U)

  pub marked-is : (c : Configuration) → marked (places S U) (marking_of S U c) ≡ marked_by c
  unfolding marking_of
  marked-is c = marked-keep (mark S c) (places S U)

  -- ---- values

  values-distinct : (x : ℕ) → S.publics ≤ x → Distinct (values_of S U x)
  unfolding values_of
  values-distinct x lo = go (ltb x S.publics)
    where
      go : (b : Bool) → Distinct (pick b (x ∷ []) (keep (U.reach x) (range (S.publics + U.privates))))
      go true = distinct-one x
      go false = distinct-keep (U.reach x) (range (S.publics + U.privates)) (distinct_from 0 (S.publics + U.privates))

  module _ (c : Configuration) (W : WellFormed S U c) (x : ℕ) (lo : S.publics ≤ x) (hi : x < S.publics + S.bounds) where
    abbrev pub value_list : Option ℕ → List ℕ
    value_list none = []
    value_list (some v) = v ∷ []

    -- what the name's own [x=v] places give
    own-values : (o : Option ℕ) → c.value x ≡ o → flat (λ v. pick (holds (c.value x) v) (values_in x (equals x v)) []) (values_of S U x) ≡ value_list o
    own-values none e = flat-none (λ v. pick (holds (c.value x) v) (values_in x (equals x v)) []) (values_of S U x) (λ v i. rw e)
    own-values (some u) e =
        flat-only (λ v. pick (holds (c.value x) v) (values_in x (equals x v)) []) u (values_of S U x) (values-distinct x lo)
        (member-element u (values_of S U x) (takes-member S U A x u (inl (lo, hi, (W.allowed x u lo e).1))))
        (λ v n. rw (e, same-no v u n))
        ∙ rw (e, same_self u, same_self x)

    abbrev g : Place → List ℕ
    g = values_in x

    differs_none : (y : ℕ) (b : Bool) → flat g (keep (mark S c) (pick b [] (map (differs y) (private_values_of S U y)))) ≡ []
    unfolding keep flat
    differs_none y true = refl
    differs_none y false =
        sift-none (mark S c) g (map (differs y) (private_values_of S U y))
        (λ p e. let (v, i, q) = map-element (differs y) (private_values_of S U y) e in rw q)

    row-values : (y : ℕ) → flat g (keep (mark S c) (row S U y)) ≡ flat (λ v. pick (holds (c.value y) v) (values_in x (equals y v)) []) (values_of S U y)
    unfolding row
    row-values y =
        sift-append (mark S c) g (map (equals y) (values_of S U y)) (pick (S.restricted y) [] (map (differs y) (private_values_of S U y)))
        ∙ rw (differs_none y (S.restricted y), sift-map (mark S c) g (equals y) (values_of S U y))
        (append-nil (flat (λ v. pick (holds (c.value y) v) (values_in x (equals y v)) []) (values_of S U y)))

    other_row : (y : ℕ) → y ≢ x → flat g (keep (mark S c) (row S U y)) ≡ []
    other_row y n =
        row-values y
        ∙ flat-none (λ v. pick (holds (c.value y) v) (values_in x (equals y v)) []) (values_of S U y)
        (λ v i. rw (same-no x y (λ q. n (sym q))) (go (holds (c.value y) v)))
      where
        go : (b : Bool) → ◌≡◌ {A = List ℕ} (pick {A = List ℕ} b [] []) []
        go true = refl
        go false = refl

    rows-values : flat g (keep (mark S c) (rows S U)) ≡ value_list (c.value x)
    unfolding rows
    rows-values =
        sift-append (mark S c) g (flat (row S U) (from S.publics S.bounds)) (map free (private_value_list S U))
        ∙ rw (
          sift-none (mark S c) g (map free (private_value_list S U)) (λ p e. let (v, i, q) = map-element free (private_value_list S U) e in rw q),
          sift-flat (mark S c) g (row S U) (from S.publics S.bounds),
          flat-only (λ y. flat g (keep (mark S c) (row S U y))) x (from S.publics S.bounds) (distinct_from S.publics S.bounds)
              (member-element x (from S.publics S.bounds) (member-from x S.publics S.bounds lo hi)) other_row,
          row-values x,
          own-values (c.value x) refl,
        )
        (append-nil (value_list (c.value x)))

    controls-none : flat g (keep (mark S c) (control_places S)) ≡ []
    unfolding control_places
    controls-none =
        sift-none (mark S c) g (flat (λ n. map (control n) (range (controls S n))) (range S.nodes))
        (λ p e.
        let (n, i, j) = flat-element (λ n. map (control n) (range (controls S n))) (range S.nodes) e in
        let (k, o, q) = map-element (control n) (range (controls S n)) j in
        rw q)

    pub values-read : values S U (marked_by c) x ≡ value_list (c.value x)
    unfolding values places
    values-read = sift-append (mark S c) g (rows S U) (control_places S) ∙ rw (rows-values, controls-none) (append-nil (value_list (c.value x)))

  -- ---- spots

  module _ (c : Configuration) (W : WellFormed S U c) (θ : ℕ) (l : θ < S.threads) where
    abbrev stood : Spot
    stood = c.at θ

    -- what control place k of node n gives
    abbrev gives : ℕ → ℕ → List Spot
    gives n k = pick (mark S c (control n k)) (spot_list S θ (control n k)) []

    nothing : (b : Bool) → ◌≡◌ {A = List Spot} (pick {A = List Spot} b [] []) []
    nothing true = refl
    nothing false = refl

    -- a place gives a spot where the thread stands there, and only there
    other_place : (n k : ℕ) → (stood ≡ spot n k → ⊥) → gives n k ≡ []
    other_place n k o = go (ℕ_discrete (S.thread n) θ)
      where
        off : S.thread n ≡ θ → mark S c (control n k) ≡ false
        off e = not-true-false (mark S c (control n k)) (λ m. o (ap (λ (t : ℕ). c.at t) (sym e) ∙ same_spot-true (c.at (S.thread n)) (spot n k) m))

        go : Dec (S.thread n ≡ θ) → gives n k ≡ []
        go (yes e) = rw (off e)
        go (no d) = rw (same-no (S.thread n) θ d) (nothing (mark S c (control n k)))

    own-place : gives stood.node stood.index ≡ stood ∷ []
    own-place = rw ((W.stands θ l).0, same_self stood.node, same_self stood.index, same_self θ)

    abbrev node_gives : ℕ → List Spot
    node_gives n = flat (gives n) (range (controls S n))

    other-node : (n : ℕ) → n ≢ stood.node → node_gives n ≡ []
    other-node n d = flat-none (gives n) (range (controls S n)) (λ k i. other_place n k (λ e. d (sym (ap (λ (p : Spot). p.node) e))))

    own-node : node_gives stood.node ≡ stood ∷ []
    unfolding controls
    own-node =
        flat-only (gives stood.node) stood.index (range (controls S stood.node)) (distinct_from 0 (controls S stood.node))
        (member-element stood.index (range (controls S stood.node))
        (below-range stood.index (controls S stood.node) (ltb-true stood.index (controls S stood.node)
        (sym (spot-test S U A stood.node stood.index (S.node stood.node))
        ∙ and_right (ltb stood.node S.nodes) (is_spot S (S.node stood.node) stood) (W.stands θ l).1))))
        (λ k d. other_place stood.node k (λ e. d (sym (ap (λ (p : Spot). p.index) e))))
        ∙ own-place

    controls-spots : flat (spot_list S θ) (keep (mark S c) (control_places S)) ≡ stood ∷ []
    unfolding control_places
    controls-spots =
        sift-flat (mark S c) (spot_list S θ) (λ n. map (control n) (range (controls S n))) (range S.nodes)
        ∙ ap (λ (h : ℕ → List Spot). flat h (range S.nodes)) (fun_ext (λ n. sift-map (mark S c) (spot_list S θ) (control n) (range (controls S n))))
        ∙ flat-only node_gives stood.node (range S.nodes) (distinct_from 0 S.nodes)
        (member-element stood.node (range S.nodes) (below-range stood.node S.nodes (ltb-true stood.node S.nodes
        (and_left (ltb stood.node S.nodes) (is_spot S (S.node stood.node) stood) (W.stands θ l).1))))
        other-node
        ∙ own-node

    row-spots : (x : ℕ) (p : Place) → Element p (row S U x) → spot_list S θ p ≡ []
    unfolding row
    row-spots x p e = go (append-element (map (equals x) (values_of S U x)) (pick (S.restricted x) [] (map (differs x) (private_values_of S U x))) e)
      where
        differing : (b : Bool) → Element p (pick b [] (map (differs x) (private_values_of S U x))) → spot_list S θ p ≡ []
        differing true i = no-element i
        differing false i = let (v, j, q) = map-element (differs x) (private_values_of S U x) i in rw q

        go : Element p (map (equals x) (values_of S U x)) ⊎ Element p (pick (S.restricted x) [] (map (differs x) (private_values_of S U x))) → spot_list S θ p ≡ []
        go (inl i) = let (v, j, q) = map-element (equals x) (values_of S U x) i in rw q
        go (inr i) = differing (S.restricted x) i

    rows-spots : flat (spot_list S θ) (keep (mark S c) (rows S U)) ≡ []
    unfolding rows
    rows-spots =
        sift-none (mark S c) (spot_list S θ) (rows S U)
        (λ p e. go p (append-element (flat (row S U) (from S.publics S.bounds)) (map free (private_value_list S U)) e))
      where
        go : (p : Place) → Element p (flat (row S U) (from S.publics S.bounds)) ⊎ Element p (map free (private_value_list S U)) → spot_list S θ p ≡ []
        go p (inl i) = let (x, j, k) = flat-element (row S U) (from S.publics S.bounds) i in row-spots x p k
        go p (inr i) = let (v, j, q) = map-element free (private_value_list S U) i in rw q

    pub spots-read : spots S U (marked_by c) θ ≡ c.at θ ∷ []
    unfolding spots places
    spots-read = sift-append (mark S c) (spot_list S θ) (rows S U) (control_places S) ∙ rw (rows-spots, controls-spots)
