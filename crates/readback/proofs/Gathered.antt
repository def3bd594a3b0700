-- The spots of a thread and the values of a bound name among the marked places, by the numbers of places.
use mathlib.Core.Path.{◌≡◌, refl, sym, ap, ◌∙◌, fun_ext}
use mathlib.Core.Logic.{◌≢◌, ◌⊎◌, inl, inr}
use mathlib.Core.Bool.{Bool, true, false}
use mathlib.Core.List.{List, [], ◌∷◌, map, append-nil}
use Prim.Native.Nat.{ℕ, zero, suc, ◌+◌, ◌-◌, ◌≤◌, ◌<◌}
use native.Mathlib.Omega.{arith}
use lib.ListN.{length}
use Rattle.lists.specs.Lists.{pick, same, word, from, range, keep, flat}
use Rattle.lists.proofs.Tests.{same_self, same-no}
use Rattle.lists.proofs.Ranges.{member-from, from_member}
use Rattle.lists.proofs.Members.{flat-same, distinct_from}
use Rattle.lists.proofs.Numbered.{map-keep-flat}
use Rattle.scheme.specs.Scheme.{Scheme}
use Rattle.scheme.proofs.Scatter.{map_range}
use Rattle.places.specs.Values.{Values, values_of, private_value_list, private_values_of}
use Rattle.places.specs.Reach.{values_for}
use Rattle.places.specs.Places.{Place, equals, differs, free, control, controls, control_places, row, rows, places}
use Rattle.places.specs.Rows.{row_start_of, control_start}
use Rattle.places.proofs.Rows.{values-bound}
use Rattle.readback.specs.Configurations.{Spot, spot}
use Rattle.readback.specs.Reading.{spot_list, values_in, spots, values}
use Rattle.readback.specs.Inner.Hits.{token, hits}
use Rattle.readback.specs.Inner.Standing.{spots_on, spots_below, spots_at, values_at}
use Rattle.readback.proofs.Elements.{Element, no-element, append-element, map-element, flat-element, member-element}
use Rattle.readback.proofs.Sifted.{sift-append, sift-map, sift-flat, sift-none, flat-only, flat-none}
use Rattle.readback.proofs.Marked.{chosen}

-- ---- ranges that start elsewhere, and lists

flat_map : {A : Type 0} (f : ℕ → List A) (g : ℕ → ℕ) (xs : List ℕ) → flat f (map g xs) ≡ flat (λ i. f (g i)) xs
unfolding flat
flat_map f g [] = refl
flat_map f g (x ∷ xs) = rw (flat_map f g xs)

-- the number at place i of those kept has i of them below it
keep-rank-from : (p : ℕ → Bool) (a n i : ℕ) → i < length (keep p (from a n))
    → (a ≤ word (keep p (from a n)) i) × (length (keep p (from a (word (keep p (from a n)) i - a))) ≡ i)
unfolding keep from
keep-rank-from p a zero i l = absurd (omega arith)
keep-rank-from p a (suc n) i l = go (p a) refl i l (keep-rank-from p (a + 1) n)
  where
    rest : List ℕ
    rest = keep p (from (a + 1) n)

    below : (v : ℕ) → a + 1 ≤ v → length (keep p (from a (v - a))) ≡ length
        (pick (p a) (a ∷ keep p (from (a + 1) (v - (a + 1)))) (keep p (from (a + 1) (v - (a + 1)))))
    below v h = let e : v - a ≡ suc (v - (a + 1)) = omega arith in rw e

    go : (b : Bool) → p a ≡ b → (i : ℕ) → i < length (pick b (a ∷ rest) rest)
        → ((k : ℕ) → k < length rest → (a + 1 ≤ word rest k) × (length (keep p (from (a + 1) (word rest k - (a + 1)))) ≡ k))
        → (a ≤ word (pick b (a ∷ rest) rest) i) × (length (keep p (from a (word (pick b (a ∷ rest) rest) i - a))) ≡ i)
    go true e zero l ih = let z : a - a ≡ 0 = omega arith in (omega arith, rw z)
    go true e (suc k) l ih = let (h, q) = ih k (omega arith) in (omega arith, below (word rest k) h ∙ rw (e, q))
    go false e k l ih = let (h, q) = ih k l in (omega arith, below (word rest k) h ∙ rw (e, q))

keep-rank : (p : ℕ → Bool) (n i : ℕ) → i < length (keep p (range n)) → length (keep p (range (word (keep p (range n)) i))) ≡ i
keep-rank p n i l =
    let z : word (keep p (range n)) i - 0 ≡ word (keep p (range n)) i = omega arith in
    ap (λ (v : ℕ). length (keep p (range v))) (sym z) ∙ (keep-rank-from p 0 n i l).1

flat-shift : {A : Type 0} (f : ℕ → List A) (a b n : ℕ) → flat f (from (a + b) n) ≡ flat (λ i. f (a + i)) (from b n)
unfolding flat from
flat-shift f a b zero = refl
flat-shift f a b (suc n) = let e : a + b + 1 ≡ a + (b + 1) = omega arith in rw (e, flat-shift f a (b + 1) n)

module _ {A : Type 0} (m : List ℕ) (start low count : ℕ) (test : ℕ → Bool) (h : ℕ → A) where
  -- what stands at the marked ones of some places
  pub flat-hits : ((i : ℕ) → i < count → test (low + i) ≡ token m (start + i))
      → flat (λ v. pick (test v) (h v ∷ []) []) (from low count) ≡ map (λ i. h (low + i)) (hits m start count)
  unfolding hits
  flat-hits e =
      let z : low ≡ low + 0 = omega arith in
      ap (λ (k : ℕ). flat (λ v. pick (test v) (h v ∷ []) []) (from k count)) z
      ∙ flat-shift (λ v. pick (test v) (h v ∷ []) []) low 0 count
      ∙ flat-same (λ i. pick (test (low + i)) (h (low + i) ∷ []) []) (λ i. pick (token m (start + i)) (h (low + i) ∷ []) []) (range count)
      (λ i k. rw (e i (omega (arith, from_member i 0 count k))))
      ∙ sym (map-keep-flat (λ i. h (low + i)) (λ i. token m (start + i)) (range count))

-- what stands at the marked ones of the places of a list
listed-hits : (m : List ℕ) (start : ℕ) (vs : List ℕ) (test : ℕ → Bool) → ((i : ℕ) → i < length vs → test (word vs i) ≡ token m (start + i))
    → flat (λ v. pick (test v) (v ∷ []) []) vs ≡ map (word vs) (hits m start (length vs))
listed-hits m start vs test e =
    let z : vs ≡ map (word vs) (range (length vs)) = map_range (word vs) vs (length vs) refl (λ k l. refl) in
    ap (flat (λ v. pick (test v) (v ∷ []) [])) z
    ∙ flat_map (λ v. pick (test v) (v ∷ []) []) (word vs) (range (length vs))
    ∙ flat-hits m start 0 (length vs) (λ i. test (word vs i)) (word vs) (λ i l. let q : 0 + i ≡ i = omega arith in rw q (e i l))
    ∙ ap (λ (f : ℕ → ℕ). map f (hits m start (length vs))) (fun_ext (λ i. let q : 0 + i ≡ i = omega arith in rw q))

module _ (S : Scheme) (m : List ℕ) where
  abbrev U : Values
  U = values_for S

  abbrev among : List Place → List Place
  among ps = keep (chosen S U m) ps

  -- ---- spots

  module _ (t : ℕ) where
    row-spots : (x : ℕ) (p : Place) → Element p (row S U x) → spot_list S t p ≡ []
    unfolding row
    row-spots x p e = go (append-element (map (equals x) (values_of S U x)) (pick (S.restricted x) [] (map (differs x) (private_values_of S U x))) e)
      where
        differing : (b : Bool) → Element p (pick b [] (map (differs x) (private_values_of S U x))) → spot_list S t p ≡ []
        differing true i = no-element i
        differing false i = let (v, j, q) = map-element (differs x) (private_values_of S U x) i in rw q

        go : Element p (map (equals x) (values_of S U x)) ⊎ Element p (pick (S.restricted x) [] (map (differs x) (private_values_of S U x))) → spot_list S t p ≡ []
        go (inl i) = let (v, j, q) = map-element (equals x) (values_of S U x) i in rw q
        go (inr i) = differing (S.restricted x) i

    rows-spots : flat (spot_list S t) (among (rows S U)) ≡ []
    unfolding rows
    rows-spots =
        sift-none (chosen S U m) (spot_list S t) (rows S U)
        (λ p e. go p (append-element (flat (row S U) (from S.publics S.bounds)) (map free (private_value_list S U)) e))
      where
        go : (p : Place) → Element p (flat (row S U) (from S.publics S.bounds)) ⊎ Element p (map free (private_value_list S U)) → spot_list S t p ≡ []
        go p (inl i) = let (x, j, q) = flat-element (row S U) (from S.publics S.bounds) i in row-spots x p q
        go p (inr i) = let (v, j, q) = map-element free (private_value_list S U) i in rw q

    -- what the control places of a node give
    node-spots : (n : ℕ) → flat (spot_list S t) (among (map (control n) (range (controls S n)))) ≡ pick (same (S.thread n) t) (spots_on S m n) []
    node-spots n = sift-map (chosen S U m) (spot_list S t) (control n) (range (controls S n)) ∙ go (same (S.thread n) t)
      where
        nothing : (b : Bool) → ◌≡◌ {A = List Spot} (pick {A = List Spot} b [] []) []
        nothing true = refl
        nothing false = refl

        go : (b : Bool) → flat (λ k. pick (chosen S U m (control n k)) (pick b (spot n k ∷ []) []) []) (range (controls S n)) ≡ pick b (spots_on S m n) []
        go true =
            flat-hits m (control_start S U n) 0 (controls S n) (λ k. chosen S U m (control n k)) (spot n)
            (λ i l. let e : 0 + i ≡ i = omega arith in rw e)
            ∙ ap (λ (f : ℕ → Spot). map f (hits m (control_start S U n) (controls S n))) (fun_ext (λ i. let e : 0 + i ≡ i = omega arith in rw e))
        go false = flat-none (λ k. pick (chosen S U m (control n k)) [] []) (range (controls S n)) (λ k i. nothing (chosen S U m (control n k)))

    pub spots-are : spots S U (among (places S U)) t ≡ spots_at S m t
    unfolding spots places control_places spots_below
    spots-are =
        sift-append (chosen S U m) (spot_list S t) (rows S U) (flat (λ n. map (control n) (range (controls S n))) (range S.nodes))
        ∙ rw (rows-spots, sift-flat (chosen S U m) (spot_list S t) (λ n. map (control n) (range (controls S n))) (range S.nodes))
        (ap (λ (f : ℕ → List Spot). flat f (range S.nodes)) (fun_ext node-spots))

  -- ---- values

  module _ (x : ℕ) (lo : S.publics ≤ x) (hi : x < S.publics + S.bounds) where
    abbrev g : Place → List ℕ
    g = values_in x

    differs_none : (y : ℕ) (b : Bool) → flat g (among (pick b [] (map (differs y) (private_values_of S U y)))) ≡ []
    unfolding keep flat
    differs_none y true = refl
    differs_none y false =
        sift-none (chosen S U m) g (map (differs y) (private_values_of S U y))
        (λ p e. let (v, i, q) = map-element (differs y) (private_values_of S U y) e in rw q)

    row-values : (y : ℕ) → flat g (among (row S U y)) ≡ flat (λ v. pick (chosen S U m (equals y v)) (values_in x (equals y v)) []) (values_of S U y)
    unfolding row
    row-values y =
        sift-append (chosen S U m) g (map (equals y) (values_of S U y)) (pick (S.restricted y) [] (map (differs y) (private_values_of S U y)))
        ∙ rw (differs_none y (S.restricted y), sift-map (chosen S U m) g (equals y) (values_of S U y))
        (append-nil (flat (λ v. pick (chosen S U m (equals y v)) (values_in x (equals y v)) []) (values_of S U y)))

    other_row : (y : ℕ) → y ≢ x → flat g (among (row S U y)) ≡ []
    other_row y n =
        row-values y
        ∙ flat-none (λ v. pick (chosen S U m (equals y v)) (values_in x (equals y v)) []) (values_of S U y)
        (λ v i. rw (same-no x y (λ q. n (sym q))) (go (chosen S U m (equals y v))))
      where
        go : (b : Bool) → ◌≡◌ {A = List ℕ} (pick {A = List ℕ} b [] []) []
        go true = refl
        go false = refl

    own-values : flat (λ v. pick (chosen S U m (equals x v)) (values_in x (equals x v)) []) (values_of S U x) ≡ values_at S m x
    unfolding values_at
    own-values =
        rw (same_self x)
        (listed-hits m (row_start_of S U x) (values_of S U x) (λ v. chosen S U m (equals x v))
        (λ i l. ap (token m) (ap (λ (k : ℕ). row_start_of S U x + k) (rank-at i l))))
      where
        rank-at : (i : ℕ) → i < length (values_of S U x) → length (keep (U.reach x) (range (word (values_of S U x) i))) ≡ i
        rank-at i l = rw (values-bound S U x lo) (keep-rank (U.reach x) (S.publics + U.privates) i (rw (values-bound S U x lo) at l))

    rows-values : flat g (among (rows S U)) ≡ values_at S m x
    unfolding rows
    rows-values =
        sift-append (chosen S U m) g (flat (row S U) (from S.publics S.bounds)) (map free (private_value_list S U))
        ∙ rw (
          sift-none (chosen S U m) g (map free (private_value_list S U)) (λ p e. let (v, i, q) = map-element free (private_value_list S U) e in rw q),
          sift-flat (chosen S U m) g (row S U) (from S.publics S.bounds),
          flat-only (λ y. flat g (among (row S U y))) x (from S.publics S.bounds) (distinct_from S.publics S.bounds)
              (member-element x (from S.publics S.bounds) (member-from x S.publics S.bounds lo hi)) other_row,
          row-values x,
          own-values,
        )
        (append-nil (values_at S m x))

    controls-none : flat g (among (control_places S)) ≡ []
    unfolding control_places
    controls-none =
        sift-none (chosen S U m) g (flat (λ n. map (control n) (range (controls S n))) (range S.nodes))
        (λ p e.
        let (n, i, j) = flat-element (λ n. map (control n) (range (controls S n))) (range S.nodes) e in
        let (k, o, q) = map-element (control n) (range (controls S n)) j in
        rw q)

    pub values-are : values S U (among (places S U)) x ≡ values_at S m x
    unfolding values places
    values-are = sift-append (chosen S U m) g (rows S U) (control_places S) ∙ rw (rows-values, controls-none) (append-nil (values_at S m x))
