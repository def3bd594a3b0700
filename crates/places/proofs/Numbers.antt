-- The positions of just the places of a list are the numbers, in order, of those of them that the net has.
use Rattle.std.proofs.Common.{◌≡◌, ℕ, ◌+◌, ◌<◌, ◌≤◌, Bool, true, false, not, ◌&&◌, ltb, leb, List, map, length, get_or, sym, refl, ◌∙◌, arith, ltb-true, lt-ltb, le-leb, leb-true}
use mathlib.Core.List.{Memᴰ}
use lib.ListN.{length-map}
use Rattle.lists.specs.Lists.{keep, member, positions}
use Rattle.lists.proofs.Tests.{false-true, and_left, and_right, both_ways}
use Rattle.lists.proofs.Standing.{in-keep, keep-in, kept-length, number_in, in-number}
use Rattle.lists.proofs.Counts.{distinct-below}
use Rattle.lists.proofs.Positions.{ascends-distinct, positions-rise, position-below, positions-are}
use Rattle.scheme.specs.Scheme.{Scheme}
use Rattle.places.specs.Values.{Values}
use Rattle.places.specs.Places.{Place, equals, differs, free, control, controls, places}
use Rattle.places.specs.Rows.{number_of, Exists, has-equals, has-differs, has-free, has-control}
use Rattle.places.specs.Inner.Arcs.{sorted, exists, numbers_for}
use Rattle.places.proofs.Rows.{place_at, place-exists, number_at, number-below}
use Rattle.places.proofs.Sorted.{sorted-ascends, member-sorted, sorted-length}

module _ (S : Scheme) (U : Values) where
  -- ---- the places that the net has

  pub exists-has : (p : Place) → exists S U p ≡ true → Exists S U p
  exists-has (equals x v) h =
      let l = ltb x (S.publics + S.bounds) in
      let c = ltb v (S.publics + U.privates) in
      let h₁ = and_right (leb S.publics x) (l && (c && U.reach x v)) h in
      let h₂ = and_right l (c && U.reach x v) h₁ in
      has-equals (
        leb-true S.publics x (and_left (leb S.publics x) (l && (c && U.reach x v)) h),
        ltb-true x (S.publics + S.bounds)
            (and_left l (c && U.reach x v) h₁),
      )
      (ltb-true v (S.publics + U.privates) (and_left c (U.reach x v) h₂)) (and_right c (U.reach x v) h₂)
  exists-has (differs x v) h =
      let a = leb S.publics x in
      let l = ltb x (S.publics + S.bounds) in
      let r = not (S.restricted x) in
      let d = leb S.publics v in
      let c = ltb v (S.publics + U.privates) in
      let q = U.reach x v in
      let h₁ = and_right a (l && (r && (d && (c && q)))) h in
      let h₂ = and_right l (r && (d && (c && q))) h₁ in
      let h₃ = and_right r (d && (c && q)) h₂ in
      let h₄ = and_right d (c && q) h₃ in
      has-differs (
        leb-true S.publics x (and_left a (l && (r && (d && (c && q)))) h),
        ltb-true x (S.publics + S.bounds)
            (and_left l (r && (d && (c && q))) h₁),
      )
      (free-name (S.restricted x) (and_left r (d && (c && q)) h₂))
      (leb-true S.publics v (and_left d (c && q) h₃), ltb-true v (S.publics + U.privates) (and_left c q h₄)) (and_right c q h₄)
    where
      free-name : (b : Bool) → not b ≡ true → b ≡ false
      free-name true e = false-true refl e
      free-name false e = refl
  exists-has (free v) h =
      let d = leb S.publics v in
      let c = ltb v (S.publics + U.privates) in
      has-free (leb-true S.publics v (and_left d c h), ltb-true v (S.publics + U.privates) (and_right d c h))
  exists-has (control n k) h =
      let a = ltb n S.nodes in
      let b = ltb k (controls S n) in
      has-control (ltb-true n S.nodes (and_left a b h)) (ltb-true k (controls S n) (and_right a b h))

  pub has-exists : (p : Place) → Exists S U p → exists S U p ≡ true
  has-exists (equals x v) (has-equals b u r) =
      rw (le-leb S.publics x b.0, lt-ltb x (S.publics + S.bounds) b.1, lt-ltb v (S.publics + U.privates) u, r)
  has-exists (differs x v) (has-differs b n u r) =
      rw (
        le-leb S.publics x b.0,
        lt-ltb x (S.publics + S.bounds) b.1,
        n,
        le-leb S.publics v u.0,
        lt-ltb v (S.publics + U.privates) u.1,
        r,
      )
  has-exists (free v) (has-free u) = rw (le-leb S.publics v u.0, lt-ltb v (S.publics + U.privates) u.1)
  has-exists (control n k) (has-control l u) = rw (lt-ltb n S.nodes l, lt-ltb k (controls S n) u)

  -- ---- the positions of the places of a list

  module _ (q : Place → Bool) (ps : List Place) (sound : (p : Place) → Memᴰ p ps → q p ≡ true)
      (complete : (p : Place) → Exists S U p → q p ≡ true → Memᴰ p ps) where
    abbrev held : List Place
    held = keep (exists S U) ps

    has : (p : Place) → Memᴰ p held → Exists S U p
    has p m = exists-has p (keep-in (exists S U) p ps m).1

    below : (k : ℕ) → member k (map (number_of S U) held) ≡ true → k < length (places S U)
    below k m =
        let f = number_in (number_of S U) k held m in
        rw f.holds (number-below S U (free 0) f.element (has f.element f.stands))

    to : (k : ℕ) → member k (map (number_of S U) held) ≡ true → q (get_or (places S U) k (free 0)) ≡ true
    to k m =
        let f = number_in (number_of S U) k held m in
        rw (f.holds, place_at S U (free 0) f.element (has f.element f.stands))
        (sound f.element (keep-in (exists S U) f.element ps f.stands).0)

    of : (k : ℕ) → k < length (places S U) → q (get_or (places S U) k (free 0)) ≡ true → member k (map (number_of S U) held) ≡ true
    of k l h =
        let p = get_or (places S U) k (free 0) in
        let e = place-exists S U (free 0) k l in
        rw (number_at S U (free 0) k l) at
        (in-number (number_of S U) p held (in-keep (exists S U) p ps (complete p e h) (has-exists p e)))

    pub numbers-are : positions q (places S U) ≡ numbers_for S U ps
    unfolding numbers_for
    numbers-are =
        sym (positions-are q (free 0) (places S U) (sorted (map (number_of S U) held))
        (sorted-ascends (length (places S U)) 0 (map (number_of S U) held) (λ k m. (omega arith, below k m)))
        (λ k l. member-sorted k (map (number_of S U) held)
        ∙ both_ways (member k (map (number_of S U) held)) (q (get_or (places S U) k (free 0))) (to k) (of k l)))

  pub numbers-few : (ps : List Place) → length (numbers_for S U ps) ≤ length ps
  unfolding numbers_for
  numbers-few ps =
      let held = keep (exists S U) ps in
      omega (arith, sorted-length (map (number_of S U) held), length-map held (number_of S U), kept-length (exists S U) ps)

  pub all-positions : (q : Place → Bool) → length (positions q (places S U)) ≤ length (places S U)
  all-positions q =
      distinct-below (positions q (places S U)) (length (places S U)) (λ k m. position-below q (places S U) k m)
      (ascends-distinct (length (places S U)) 0 (positions q (places S U)) (positions-rise q (places S U)))
