-- The list of places has exactly the places that exist.
use Prim.Native.Nat.{ℕ, suc, ◌+◌, ◌≤◌, ◌<◌}
use mathlib.Core.Path.{◌≡◌, refl, sym, ◌∙◌}
use mathlib.Core.Logic.{◌⊎◌, inl, inr}
use mathlib.Core.Bool.{Bool, true, false, ◌&&◌}
use mathlib.Core.List.{[], map}
use native.Mathlib.Omega.{arith}
use lib.Dec.{ltb, leb}
use lib.ListN.{length}
use borrow.Author.Tests.{lt-ltb, le-leb, ltb-true, leb-true}
use Rattle.lists.specs.Lists.{pick, same, from, range, flat, member}
use Rattle.lists.proofs.Tests.{and_left, and_right, and_intro, both_ways, same_true, same-yes}
use Rattle.lists.proofs.Ranges.{member-from, from_member}
use Rattle.lists.proofs.Members.{member-keep}
use Rattle.scheme.specs.Scheme.{Scheme, Node, stop, choice, new, call}
use Rattle.table.specs.Accepted.{Accepted}
use Rattle.places.specs.Values.{Values, values_of, private_value_list, private_values_of}
use Rattle.places.specs.Places.{Place, equals, differs, free, control, controls_at, controls, control_places, row, rows, places}
use Rattle.readback.specs.Configurations.{spot, is_spot}
use Rattle.readback.proofs.Elements.{Element, no-element, element-left, element-right, append-element, element-map, map-element, element-flat, flat-element}
use Rattle.readback.proofs.Elements.{element-member, member-element}
use Rattle.fidelity.specs.Inner.Marks.{is_place, allows, Exists, exists-equals, exists-differs, exists-free, exists-control}
use Rattle.fidelity.proofs.Listed.{below-range, range-below, takes-member, bound-values}

module _ (S : Scheme) (U : Values) (A : Accepted S) where
  -- ---- control places

  pub spot-test : (n k : ℕ) (ν : Node) → is_spot S ν (spot n k) ≡ ltb k (controls_at S n ν)
  spot-test n k stop =
      both_ways (leb k (length (S.held n))) (ltb k (suc (length (S.held n))))
      (λ h. lt-ltb k (suc (length (S.held n))) (omega (arith, leb-true k (length (S.held n)) h)))
      (λ h. le-leb k (length (S.held n)) (omega (arith, ltb-true k (suc (length (S.held n))) h)))
  spot-test n k (choice f c) =
      both_ways (same k 0) (ltb k 1) (λ h. lt-ltb k 1 (omega (arith, same_true k 0 h))) (λ h. same-yes k 0 (omega (arith, ltb-true k 1 h)))
  spot-test n k (new r l) =
      both_ways (same k 0) (ltb k 1) (λ h. lt-ltb k 1 (omega (arith, same_true k 0 h))) (λ h. same-yes k 0 (omega (arith, ltb-true k 1 h)))
  spot-test n k (call d) =
      both_ways (leb k (length (S.formals d) + length (S.held n))) (ltb k (suc (length (S.formals d) + length (S.held n))))
      (λ h. lt-ltb k (suc (length (S.formals d) + length (S.held n))) (omega (arith, leb-true k (length (S.formals d) + length (S.held n)) h)))
      (λ h. le-leb k (length (S.formals d) + length (S.held n)) (omega (arith, ltb-true k (suc (length (S.formals d) + length (S.held n))) h)))

  control-exists : {p : Place} → Element p (control_places S) → Exists S U p
  unfolding control_places controls
  control-exists e =
      let (n, i, j) = flat-element (λ n. map (control n) (range (controls S n))) (range S.nodes) e in
      let (k, o, q) = map-element (control n) (range (controls S n)) j in
      rw q
      (exists-control (and_intro (ltb n S.nodes) (is_spot S (S.node n) (spot n k))
      (lt-ltb n S.nodes (range-below n S.nodes (element-member (range S.nodes) i)))
      (spot-test n k (S.node n) ∙ lt-ltb k (controls S n) (range-below k (controls S n) (element-member (range (controls S n)) o)))))

  control-listed : (n k : ℕ) → is_place S (spot n k) ≡ true → Element (control n k) (control_places S)
  unfolding control_places controls
  control-listed n k h =
      element-flat (λ n. map (control n) (range (controls S n))) (range S.nodes)
      (member-element n (range S.nodes) (below-range n S.nodes (ltb-true n S.nodes (and_left (ltb n S.nodes) (is_spot S (S.node n) (spot n k)) h))))
      (element-map (control n) (range (controls S n)) (member-element k (range (controls S n))
      (below-range k (controls S n) (ltb-true k (controls S n)
      (sym (spot-test n k (S.node n)) ∙ and_right (ltb n S.nodes) (is_spot S (S.node n) (spot n k)) h)))))

  -- ---- rows

  pub private-member : (x v : ℕ) → member v (private_values_of S U x) ≡ true → (S.publics ≤ v) × (v < S.publics + U.privates) × (allows S U x v ≡ true)
  unfolding private_values_of allows
  private-member x v m =
      let k : (U.reach x v && member v (private_value_list S U)) ≡ true = sym (member-keep (U.reach x) v (private_value_list S U)) ∙ m in
      let (lo, hi) = from_member v S.publics U.privates (and_right (U.reach x v) (member v (private_value_list S U)) k) in
      (lo, hi, rw (lt-ltb v (S.publics + U.privates) hi) (and_left (U.reach x v) (member v (private_value_list S U)) k))

  pub member-private : (x v : ℕ) → S.publics ≤ v → allows S U x v ≡ true → member v (private_values_of S U x) ≡ true
  unfolding private_values_of allows
  member-private x v lo al =
      member-keep (U.reach x) v (private_value_list S U)
      ∙ and_intro (U.reach x v) (member v (private_value_list S U)) (and_right (ltb v (S.publics + U.privates)) (U.reach x v) al)
      (member-from v S.publics U.privates lo (ltb-true v (S.publics + U.privates) (and_left (ltb v (S.publics + U.privates)) (U.reach x v) al)))

  row-exists : (x : ℕ) → S.publics ≤ x → x < S.publics + S.bounds → {p : Place} → Element p (row S U x) → Exists S U p
  unfolding row
  row-exists x lo hi {p} e = go (append-element (map (equals x) (values_of S U x)) (pick (S.restricted x) [] (map (differs x) (private_values_of S U x))) e)
    where
      differing : (b : Bool) → S.restricted x ≡ b → Element p (pick b [] (map (differs x) (private_values_of S U x))) → Exists S U p
      differing true r i = no-element i
      differing false r i =
          let (v, j, q) = map-element (differs x) (private_values_of S U x) i in
          let (a, b, c) = private-member x v (element-member (private_values_of S U x) j) in
          rw q (exists-differs lo hi r a c)

      go : Element p (map (equals x) (values_of S U x)) ⊎ Element p (pick (S.restricted x) [] (map (differs x) (private_values_of S U x))) → Exists S U p
      go (inl i) =
          let (v, j, q) = map-element (equals x) (values_of S U x) i in
          rw q (exists-equals lo hi (bound-values S U A x v lo (element-member (values_of S U x) j)))
      go (inr i) = differing (S.restricted x) refl i

  -- ---- all places

  pub listed-exists : {p : Place} → Element p (places S U) → Exists S U p
  unfolding places rows
  listed-exists {p} e = go (append-element (rows S U) (control_places S) e)
    where
      named : Element p (flat (row S U) (from S.publics S.bounds)) ⊎ Element p (map free (private_value_list S U)) → Exists S U p
      named (inl i) =
          let (x, j, k) = flat-element (row S U) (from S.publics S.bounds) i in
          let (lo, hi) = from_member x S.publics S.bounds (element-member (from S.publics S.bounds) j) in
          row-exists x lo hi k
      named (inr i) =
          let (v, j, q) = map-element free (private_value_list S U) i in
          let (lo, hi) = from_member v S.publics U.privates (element-member (private_value_list S U) j) in
          rw q (exists-free lo hi)

      go : Element p (rows S U) ⊎ Element p (control_places S) → Exists S U p
      go (inl i) = named (append-element (flat (row S U) (from S.publics S.bounds)) (map free (private_value_list S U)) i)
      go (inr i) = control-exists i

  in_row : (x : ℕ) → S.publics ≤ x → x < S.publics + S.bounds → {p : Place} → Element p (row S U x) → Element p (places S U)
  unfolding places rows
  in_row x lo hi e =
      element-left (rows S U) (control_places S)
      (element-left (flat (row S U) (from S.publics S.bounds)) (map free (private_value_list S U))
      (element-flat (row S U) (from S.publics S.bounds)
      (member-element x (from S.publics S.bounds) (member-from x S.publics S.bounds lo hi)) e))

  equals-listed : (x v : ℕ) → allows S U x v ≡ true → S.publics ≤ x → x < S.publics + S.bounds → Element (equals x v) (row S U x)
  unfolding row
  equals-listed x v al lo hi =
      element-left (map (equals x) (values_of S U x)) (pick (S.restricted x) [] (map (differs x) (private_values_of S U x)))
      (element-map (equals x) (values_of S U x) (member-element v (values_of S U x) (takes-member S U A x v (inl (lo, hi, al)))))

  differs-listed : (x v : ℕ) → S.restricted x ≡ false → S.publics ≤ v → allows S U x v ≡ true → Element (differs x v) (row S U x)
  unfolding row
  differs-listed x v r lo al =
      element-right (map (equals x) (values_of S U x)) (pick (S.restricted x) [] (map (differs x) (private_values_of S U x)))
      (rw r (element-map (differs x) (private_values_of S U x) (member-element v (private_values_of S U x) (member-private x v lo al))))

  pub exists-listed : {p : Place} → Exists S U p → Element p (places S U)
  unfolding places rows
  exists-listed (exists-equals {x} {v} lo hi al) = in_row x lo hi (equals-listed x v al lo hi)
  exists-listed (exists-differs {x} {v} lo hi r pv al) = in_row x lo hi (differs-listed x v r pv al)
  exists-listed (exists-free {v} lo hi) =
      element-left (rows S U) (control_places S)
      (element-right (flat (row S U) (from S.publics S.bounds)) (map free (private_value_list S U))
      (element-map free (private_value_list S U) (member-element v (private_value_list S U) (member-from v S.publics U.privates lo hi))))
  exists-listed (exists-control {n} {k} h) = element-right (rows S U) (control_places S) (control-listed n k h)
