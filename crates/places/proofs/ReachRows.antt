-- The row facts of the values in force: the public values of a name are the publics in its reach, its private values are all or none.
use Rattle.std.proofs.Common.{◌≡◌, ℕ, ◌+◌, ◌-◌, ◌<◌, ◌≤◌, Bool, true, false, ◌&&◌, ◌||◌, ltb, List, [], ◌∷◌, ◌++◌, length, sym, refl, ap, ◌∙◌, arith, length-append, le-ltb, lt-ltb}
use native.Mathlib.Decide.{dec_lt}
use Rattle.lists.specs.Lists.{pick, from, range, some, keep, member}
use Rattle.lists.proofs.Tests.{and_intro, and_left, and_right, and-false, and-true, or_right, or-true, not-true-false}
use Rattle.lists.proofs.Ranges.{from-length, from-append, from_member, member-from}
use Rattle.lists.proofs.Members.{keep_append, keep_all, keep-none, keep_same, keep-length, member-keep, member-append, member-nil}
use Rattle.lists.proofs.Positions.{keep-span}
use Rattle.scheme.specs.Scheme.{Scheme}
use Rattle.table.specs.Accepted.{Accepted}
use Rattle.places.specs.Values.{Values, values_of, private_values_of, shares}
use Rattle.places.specs.Places.{equals, differs, common, is_common}
use Rattle.places.specs.Rows.{row_length, row_start_of, number_of}
use Rattle.places.specs.Reach.{values_for, has_private_values}
use Rattle.places.proofs.Rows.{values-bound}
use Rattle.places.proofs.Tallies.{some-intro, some-elim}
use Rattle.places.proofs.Arriving.{reach-is, public-own, source-only, own}

keep-keep : (p q : ℕ → Bool) (xs : List ℕ) → keep p (keep q xs) ≡ keep (λ i. p i && q i) xs
unfolding keep
keep-keep p q [] = refl
keep-keep p q (x ∷ xs) = go (p x) refl (q x) refl (keep-keep p q xs)
  where
    go : (a : Bool) → p x ≡ a → (b : Bool) → q x ≡ b → keep p (keep q xs) ≡ keep (λ i. p i && q i) xs
        → keep p (pick b (x ∷ keep q xs) (keep q xs)) ≡ pick (a && b) (x ∷ keep (λ i. p i && q i) xs) (keep (λ i. p i && q i) xs)
    go true e true f ih = rw (e, ih)
    go true e false f ih = ih
    go false e true f ih = rw (e, ih)
    go false e false f ih = ih

keep-nil : (p : ℕ → Bool) → keep p [] ≡ []
unfolding keep
keep-nil p = refl

pick-length : (b : Bool) (a k : ℕ) → length (pick b (from a k) []) ≡ pick b k 0
pick-length true a k = from-length a k
pick-length false a k = refl

module _ (S : Scheme) where
  abbrev U : Values
  U = values_for S

  pub public-reach : (x v : ℕ) → v < S.publics → U.reach x v ≡ U.origins x v
  public-reach x v h = rw (reach-is S x v, lt-ltb v S.publics h)

  pub private-reach : (x v : ℕ) → S.publics ≤ v → U.reach x v ≡ has_private_values S x
  unfolding has_private_values
  private-reach x v h = rw (reach-is S x v, le-ltb v S.publics h)

  -- the publics in the reach of a name, upward, and how many they are
  abbrev pub public_list_of : ℕ → List ℕ
  public_list_of x = keep (U.origins x) (range S.publics)

  pub publics-few : (x : ℕ) → length (public_list_of x) ≤ S.publics
  publics-few x = omega (arith, keep-length (U.origins x) (range S.publics), from-length 0 S.publics)

  -- the private values of a name, all or none
  privates-from : (x k : ℕ) → keep (U.reach x) (from S.publics k) ≡ pick (has_private_values S x) (from S.publics k) []
  privates-from x k = go (has_private_values S x) refl
    where
      each : (b : Bool) → has_private_values S x ≡ b → (z : ℕ) → member z (from S.publics k) ≡ true → U.reach x z ≡ b
      each b e z m = private-reach x z (from_member z S.publics k m).0 ∙ e

      go : (b : Bool) → has_private_values S x ≡ b → keep (U.reach x) (from S.publics k) ≡ pick b (from S.publics k) []
      go true e = keep_all (U.reach x) (from S.publics k) (each true e)
      go false e = keep-none (U.reach x) (from S.publics k) (each false e)

  publics-below : (x v : ℕ) → v ≤ S.publics → keep (U.reach x) (range v) ≡ keep (U.origins x) (range v)
  publics-below x v h = keep_same (U.reach x) (U.origins x) (range v) (λ z m. public-reach x z (omega (arith, from_member z 0 v m)))

  below_split : (x k : ℕ) → keep (U.reach x) (range (S.publics + k)) ≡ public_list_of x ++ pick (has_private_values S x) (from S.publics k) []
  below_split x k =
      let z : 0 + S.publics ≡ S.publics = omega arith in
      rw (
        from-append 0 S.publics k,
        z,
        keep_append (U.reach x) (range S.publics) (from S.publics k),
        publics-below x S.publics (omega arith),
        privates-from x k,
      )

  -- "Values run upward, publics first."
  abbrev pub split : ℕ → List ℕ
  split x = public_list_of x ++ pick (has_private_values S x) (from S.publics U.privates) []

  pub values-split : (x : ℕ) → S.publics ≤ x → values_of S U x ≡ split x
  values-split x h = values-bound S U x h ∙ below_split x U.privates

  pub values-alone : (x : ℕ) → x < S.publics → values_of S U x ≡ x ∷ []
  unfolding values_of
  values-alone x h = rw (lt-ltb x S.publics h)

  pub privates-are : (x : ℕ) → private_values_of S U x ≡ pick (has_private_values S x) (from S.publics U.privates) []
  unfolding private_values_of
  privates-are x = privates-from x U.privates

  pub privates-count : (x : ℕ) → length (private_values_of S U x) ≡ pick (has_private_values S x) U.privates 0
  privates-count x = rw (privates-are x) (pick-length (has_private_values S x) S.publics U.privates)

  pub values-count : (x : ℕ) → S.publics ≤ x → length (values_of S U x) ≡ length (public_list_of x) + pick (has_private_values S x) U.privates 0
  values-count x h =
      rw (
        values-split x h,
        length-append (public_list_of x) (pick (has_private_values S x) (from S.publics U.privates) []),
        pick-length (has_private_values S x) S.publics U.privates,
      )

  -- ---- the size of a row, and the numbers of its places

  pub row-size : (x : ℕ) → S.publics ≤ x
      → row_length S U x ≡ length (public_list_of x) + pick (has_private_values S x) U.privates 0 + pick (S.restricted x) 0 (pick (has_private_values S x) U.privates 0)
  unfolding row_length
  row-size x h = rw (values-count x h, privates-count x)

  pub equals-public : (x v : ℕ) → v ≤ S.publics → number_of S U (equals x v) ≡ row_start_of S U x + length (keep (U.origins x) (range v))
  equals-public x v h = rw (publics-below x v h)

  pub equals-private : (x v : ℕ) → S.publics ≤ v → has_private_values S x ≡ true
      → number_of S U (equals x v) ≡ row_start_of S U x + (length (public_list_of x) + (v - S.publics))
  equals-private x v h p =
      let e : v ≡ S.publics + (v - S.publics) = omega arith in
      ap (λ (k : ℕ). row_start_of S U x + length (keep (U.reach x) (range k))) e
      ∙ rw (
        below_split x (v - S.publics),
        p,
        length-append (public_list_of x) (from S.publics (v - S.publics)),
        from-length S.publics (v - S.publics),
      )

  pub differs-private : (x v : ℕ) → S.publics ≤ x → has_private_values S x ≡ true
      → number_of S U (differs x v) ≡ row_start_of S U x + (length (public_list_of x) + U.privates + (v - S.publics))
  differs-private x v h p = rw (values-count x h, p, privates-from x (v - S.publics), p, from-length S.publics (v - S.publics))

module _ (S : Scheme) (A : Accepted S) where
  abbrev U' : Values
  U' = values_for S

  -- ---- a public name has itself alone, a restricted one all private values

  public-alone : (x : ℕ) → x < S.publics → public_list_of S x ≡ x ∷ []
  unfolding from
  public-alone x h =
      let one : x + 1 - x ≡ 1 = omega arith in
      keep-span (U'.origins x) 0 S.publics x (x + 1) (omega arith) (omega arith) only (λ v l u. there v (omega arith)) ∙ rw one
    where
      only : (v : ℕ) → 0 ≤ v → v < 0 + S.publics → U'.origins x v ≡ true → (x ≤ v) × (v < x + 1)
      only v l u q = let e : x ≡ v = source-only S A x v (rw (lt-ltb x S.publics h)) q in (omega arith, omega arith)

      there : (v : ℕ) → v ≡ x → U'.origins x v ≡ true
      there v e = rw e (public-own S x h)

  public-no : (x : ℕ) → x < S.publics → has_private_values S x ≡ false
  unfolding has_private_values
  public-no x h =
      not-true-false (some (λ o. S.restricted o && U'.origins x o) (from S.publics S.bounds))
      (λ q. let (o, m, e) = some-elim (λ o. S.restricted o && U'.origins x o) (from S.publics S.bounds) q in
      let k : x ≡ o = source-only S A x o (rw (lt-ltb x S.publics h)) (and_right (S.restricted o) (U'.origins x o) e) in
      omega (arith, from_member o S.publics S.bounds m))

  pub restricted-alone : (x : ℕ) → S.restricted x ≡ true → public_list_of S x ≡ []
  restricted-alone x r =
      keep-none (U'.origins x) (range S.publics)
      (λ v m. not-true-false (U'.origins x v)
      (λ q. let e : x ≡ v = source-only S A x v (or_right (ltb x S.publics) (S.restricted x) r) q in
      omega (arith, from_member v 0 S.publics m, A.restricted-bound x r)))

  pub restricted-yes : (x : ℕ) → S.restricted x ≡ true → has_private_values S x ≡ true
  unfolding has_private_values
  restricted-yes x r =
      some-intro (λ o. S.restricted o && U'.origins x o) x (from S.publics S.bounds)
      (member-from x S.publics S.bounds (A.restricted-bound x r).0 (A.restricted-bound x r).1) (rw (r, own S A x r))

  -- the values of every name
  pub values-are : (x : ℕ) → values_of S U' x ≡ split S x
  values-are x = go (dec_lt x S.publics)
    where
      go : Dec (x < S.publics) → values_of S U' x ≡ split S x
      go (yes l) = values-alone S x l ∙ rw (public-alone x l, public-no x l)
      go (no l) = values-split S x (omega arith)

  -- ---- which values there are

  in-publics : (e i : ℕ) → i < S.publics → member i (public_list_of S e) ≡ U'.origins e i
  in-publics e i l =
      member-keep (U'.origins e) i (range S.publics)
      ∙ rw (member-from i 0 S.publics (omega arith) (omega arith)) (and-true (U'.origins e i))

  privates-above : (b : Bool) (i : ℕ) → member i (pick b (from S.publics U'.privates) []) ≡ true → S.publics ≤ i
  privates-above true i m = (from_member i S.publics U'.privates m).0
  privates-above false i m = member-nil i m

  pub public-member : (e i : ℕ) → i < S.publics → member i (values_of S U' e) ≡ U'.origins e i
  public-member e i l =
      let rest = pick (has_private_values S e) (from S.publics U'.privates) [] in
      let n : member i rest ≡ false = not-true-false (member i rest) (λ m. omega (arith, privates-above (has_private_values S e) i m)) in
      ap (member i) (values-are e) ∙ member-append i (public_list_of S e) rest ∙ rw (n, in-publics e i l) (or_no (U'.origins e i))
    where
      or_no : (b : Bool) → (b || false) ≡ b
      or_no true = refl
      or_no false = refl

  pub private-member : (e i : ℕ) → S.publics ≤ i → i < S.publics + U'.privates → member i (values_of S U' e) ≡ has_private_values S e
  private-member e i lo hi =
      let n : member i (public_list_of S e) ≡ false = not-true-false (member i (public_list_of S e)) (below i lo) in
      ap (member i) (values-are e) ∙ member-append i (public_list_of S e) (pick (has_private_values S e) (from S.publics U'.privates) [])
      ∙ rw n (go (has_private_values S e))
    where
      below : (i : ℕ) → S.publics ≤ i → member i (public_list_of S e) ≡ true → ⊥
      below i l m =
          omega (
            arith,
            from_member i 0 S.publics
                (and_right (U'.origins e i) (member i (range S.publics)) (sym (member-keep (U'.origins e) i (range S.publics)) ∙ m)),
          )

      go : (b : Bool) → member i (pick b (from S.publics U'.privates) []) ≡ b
      go true = member-from i S.publics U'.privates lo hi
      go false = nothing i
        where
          nothing : (i : ℕ) → member i [] ≡ false
          nothing i = not-true-false (member i []) (λ m. member-nil i m)

  pub value-small : (x v : ℕ) → member v (values_of S U' x) ≡ true → v < S.publics + U'.privates
  value-small x v m = go (dec_lt v (S.publics + U'.privates))
    where
      go : Dec (v < S.publics + U'.privates) → v < S.publics + U'.privates
      go (yes l) = l
      go (no l) = side (member v (public_list_of S x)) refl
        where
          rest : List ℕ
          rest = pick (has_private_values S x) (from S.publics U'.privates) []

          high : (b : Bool) → member v (pick b (from S.publics U'.privates) []) ≡ true → v < S.publics + U'.privates
          high true k = (from_member v S.publics U'.privates k).1
          high false k = member-nil v k

          both : (member v (public_list_of S x) || member v rest) ≡ true
          both = sym (member-append v (public_list_of S x) rest) ∙ ap (member v) (sym (values-are x)) ∙ m

          side : (b : Bool) → member v (public_list_of S x) ≡ b → v < S.publics + U'.privates
          side true k =
              let q = from_member v 0 S.publics
              (and_right (U'.origins x v) (member v (range S.publics)) (sym (member-keep (U'.origins x) v (range S.publics)) ∙ k)) in
              omega arith
          side false k = high (has_private_values S x) (rw k at both)

  -- ---- the common values of two names

  shared-privates : (a e : ℕ) → shares S U' a e ≡ true → (has_private_values S a ≡ true) × (has_private_values S e ≡ true)
  unfolding shares has_private_values
  shared-privates a e h =
      let (o, m, q) = some-elim (λ o. S.restricted o && (U'.origins a o && U'.origins e o)) (from S.publics S.bounds) h in
      let r : S.restricted o ≡ true = and_left (S.restricted o) (U'.origins a o && U'.origins e o) q in
      let b : (U'.origins a o && U'.origins e o) ≡ true = and_right (S.restricted o) (U'.origins a o && U'.origins e o) q in (
        some-intro (λ o. S.restricted o && U'.origins a o) o (from S.publics S.bounds) m
            (and_intro (S.restricted o) (U'.origins a o) r (and_left (U'.origins a o) (U'.origins e o) b)),
        some-intro (λ o. S.restricted o && U'.origins e o) o (from S.publics S.bounds) m
            (and_intro (S.restricted o) (U'.origins e o) r (and_right (U'.origins a o) (U'.origins e o) b)),
      )

  pub common-are : (a e : ℕ) → common S U' a e
      ≡ keep (λ i. U'.origins e i && U'.origins a i) (range S.publics) ++ pick (shares S U' a e) (from S.publics U'.privates) []
  common-are a e =
      ap (keep (is_common S U' a e)) (values-are a)
      ∙ rw (
        keep_append (is_common S U' a e) (public_list_of S a) (pick (has_private_values S a) (from S.publics U'.privates) []),
        keep-keep (is_common S U' a e) (U'.origins a) (range S.publics),
        keep_same (λ i. is_common S U' a e i && U'.origins a i) (λ i. U'.origins e i && U'.origins a i) (range S.publics)
            (λ i m. public i (omega (arith, from_member i 0 S.publics m))),
        privates (shares S U' a e) refl,
      )
    where
      public : (i : ℕ) → i < S.publics → (is_common S U' a e i && U'.origins a i) ≡ (U'.origins e i && U'.origins a i)
      public i l = rw (public-member e i l, lt-ltb i S.publics l, and-true (U'.origins e i))

      all_in : shares S U' a e ≡ true → (i : ℕ) → member i (from S.publics U'.privates) ≡ true → is_common S U' a e i ≡ true
      all_in h i m =
          let (lo, hi) = from_member i S.publics U'.privates m in
          rw (private-member e i lo hi, (shared-privates a e h).1, h) (or-true (ltb i S.publics))

      none_in : shares S U' a e ≡ false → (i : ℕ) → member i (from S.publics U'.privates) ≡ true → is_common S U' a e i ≡ false
      none_in h i m = rw (le-ltb i S.publics (from_member i S.publics U'.privates m).0, h) (and-false (member i (values_of S U' e)))

      privates : (b : Bool) → shares S U' a e ≡ b
          → keep (is_common S U' a e) (pick (has_private_values S a) (from S.publics U'.privates) []) ≡ pick b (from S.publics U'.privates) []
      privates true h = rw (shared-privates a e h).0 (keep_all (is_common S U' a e) (from S.publics U'.privates) (all_in h))
      privates false h = go (has_private_values S a)
        where
          go : (b : Bool) → keep (is_common S U' a e) (pick b (from S.publics U'.privates) []) ≡ []
          go true = keep-none (is_common S U' a e) (from S.publics U'.privates) (none_in h)
          go false = keep-nil (is_common S U' a e)
