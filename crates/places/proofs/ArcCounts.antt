-- How many arcs each kind of transition has, for the values in force: what a first pass over the descriptions adds up.
use Rattle.std.proofs.Common.{◌≡◌, ℕ, suc, ◌+◌, ◌-◌, ◌<◌, ◌≤◌, Bool, true, false, not, ◌&&◌, leb, List, [], ◌∷◌, ◌++◌, length, sym, refl, ap, ◌∙◌, true≢false, arith, length-append, le-leb}
use mathlib.Core.List.{Memᴰ}
use native.Mathlib.Decide.{dec_lt, dec_le}
use lib.ListN.{length-map}
use borrow.Author.Tests.{lt-leb}
use Rattle.lists.specs.Lists.{pick, bit, from, keep, member, positions}
use Rattle.lists.proofs.Tests.{not-true-false}
use Rattle.lists.proofs.Ranges.{from_member}
use Rattle.lists.proofs.Members.{keep_same}
use Rattle.lists.proofs.Standing.{keep-in, number_in}
use Rattle.scheme.specs.Scheme.{Scheme}
use Rattle.table.specs.Accepted.{Accepted}
use Rattle.places.specs.Values.{Values, values_of}
use Rattle.places.specs.Reach.{values_for, has_private_values}
use Rattle.places.specs.Places.{Place, equals, differs, free, control, controls, places}
use Rattle.places.specs.Rows.{number_of, IsBound, Exists, has-equals, has-differs, has-free, has-control}
use Rattle.places.specs.Transitions.{Description, is_input, is_output, on, releasing, copying, making}
use Rattle.places.specs.Inner.Arcs.{reached_places, exists, numbers_for}
use Rattle.places.proofs.Rows.{number-unique}
use Rattle.places.proofs.Arriving.{makes}
use Rattle.places.proofs.ReachRows.{private-reach}
use Rattle.places.proofs.Sorted.{insert-new}
use Rattle.places.proofs.Numbers.{exists-has, has-exists}
use Rattle.places.proofs.Initial.{some-control}
use Rattle.places.proofs.Split.{numbers-none, numbers-yes, numbers-no, member-numbers}
use Rattle.places.proofs.ByKind.{value-exists, equals-public, differs-public, differs-restricted, on_chain, on-next, differ_numbers, differ-split}
use Rattle.places.proofs.Explicit.{releasing-inputs, releasing-gives, releasing-public, copying-inputs, copying-outputs}
use Rattle.places.proofs.Explicit.{making-inputs, making-outputs}

-- ---- one place more, for any values

module _ (S : Scheme) (U : Values) where
  -- a place that the net has, named once, counts once
  pub numbers-step : (p : Place) (ps : List Place) → (exists S U p ≡ true → Memᴰ p ps → ⊥)
      → length (numbers_for S U (p ∷ ps)) ≡ bit (exists S U p) + length (numbers_for S U ps)
  numbers-step p ps f = go (exists S U p) refl
    where
      new : exists S U p ≡ true → member (number_of S U p) (numbers_for S U ps) ≡ true → ⊥
      new e m =
          let g = number_in (number_of S U) (number_of S U p) (keep (exists S U) ps) (sym (member-numbers S U (number_of S U p) ps) ∙ m) in
          let k = keep-in (exists S U) g.element ps g.stands in
          let q = number-unique S U (free 0) p g.element (exists-has S U p e) (exists-has S U g.element k.1) g.holds in
          f e (rw q k.0)

      go : (b : Bool) → exists S U p ≡ b → length (numbers_for S U (p ∷ ps)) ≡ bit (exists S U p) + length (numbers_for S U ps)
      go true e =
          rw (
            e,
            numbers-yes S U p ps (exists-has S U p e),
            insert-new (number_of S U p) (numbers_for S U ps)
                (not-true-false (member (number_of S U p) (numbers_for S U ps)) (new e)),
          )
          (omega arith)
      go false e = rw (e, numbers-no S U p ps e) (omega arith)

  -- where a chain goes on, there is a place
  pub record Next (n k m : ℕ) : Type 0 where
    pub place : Place
    pub goes : reached_places S (on S n k m ∷ []) ≡ place ∷ []
    pub has : Exists S U place

  pub next_place : (n k m : ℕ) → n < S.nodes → m < S.nodes → Next n k m
  next_place n k m l u = go (dec_lt (suc k) (controls S n))
    where
      go : Dec (suc k < controls S n) → Next n k m
      go (yes h) = record { place = control n (suc k); goes = on_chain S U n k m h; has = has-control l h }
      go (no h) = record {
        place = control m 0;
        goes = on-next S U n k m (omega arith);
        has = has-control {n = m} {k = 0} u
            (omega (arith, some-control S U m));
      }

-- ---- the values in force

module _ (S : Scheme) (ok : Accepted S) where
  abbrev U : Values
  U = values_for S

  abbrev inputs : Description → List ℕ
  inputs d = positions (is_input S d) (places S U)

  abbrev outputs : Description → List ℕ
  outputs d = positions (is_output S d) (places S U)

  pub value-below : (x v : ℕ) → IsBound S U x → member v (values_of S U x) ≡ true → v < S.publics + U.privates
  value-below x v b m = go (value-exists S U x v b m)
    where
      go : Exists S U (equals x v) → v < S.publics + U.privates
      go (has-equals c u r) = omega arith

  free-has : (v : ℕ) → S.publics ≤ v → v < S.publics + U.privates → Exists S U (free v)
  free-has v l u = has-free (l, omega arith)

  differs-has : (x v : ℕ) → IsBound S U x → S.restricted x ≡ false → S.publics ≤ v → member v (values_of S U x) ≡ true → Exists S U (differs x v)
  differs-has x v b r l m = go (value-exists S U x v b m)
    where
      go : Exists S U (equals x v) → Exists S U (differs x v)
      go (has-equals c u q) = has-differs b r (l, u) q

  -- [x=v] is there where x is bound, [x≠v] where v is private
  pub equals-bit : (x v : ℕ) → x < S.publics + S.bounds → member v (values_of S U x) ≡ true → exists S U (equals x v) ≡ leb S.publics x
  equals-bit x v u m = go (dec_le S.publics x)
    where
      go : Dec (S.publics ≤ x) → exists S U (equals x v) ≡ leb S.publics x
      go (yes l) = has-exists S U (equals x v) (value-exists S U x v (l, u) m) ∙ sym (le-leb S.publics x l)
      go (no l) = let h : x < S.publics = omega arith in equals-public S U x v h ∙ sym (lt-leb S.publics x h)

  pub differs-bit : (x v : ℕ) → IsBound S U x → S.restricted x ≡ false → member v (values_of S U x) ≡ true → exists S U (differs x v) ≡ leb S.publics v
  differs-bit x v b r m = go (dec_le S.publics v)
    where
      go : Dec (S.publics ≤ v) → exists S U (differs x v) ≡ leb S.publics v
      go (yes l) = has-exists S U (differs x v) (differs-has x v b r l m) ∙ sym (le-leb S.publics v l)
      go (no l) = let h : v < S.publics = omega arith in differs-public S U x v h ∙ sym (lt-leb S.publics v h)

  -- ---- releases

  module _ (n m k z v : ℕ) (l : n < S.nodes) (u : m < S.nodes) (h : k < controls S n) (b : IsBound S U z) (i : member v (values_of S U z) ≡ true) where
    pub release-inputs : length (inputs (releasing S U n m k z v)) ≡ 2
    release-inputs = ap (λ (xs : List ℕ). length xs) (releasing-inputs S U n m k z v (value-exists S U z v b i) (has-control l h))

    pub release-outputs : length (outputs (releasing S U n m k z v)) ≡ 1 + bit (leb S.publics v)
    release-outputs = go (dec_le S.publics v)
      where
        next : Next S U n k m
        next = next_place S U n k m l u

        there : S.publics ≤ v → (c : Bool) → S.restricted z ≡ c → Exists S U (pick c (free v) (differs z v))
        there p true r = free-has v p (value-below z v b i)
        there p false r = differs-has z v b r p i

        go : Dec (S.publics ≤ v) → length (outputs (releasing S U n m k z v)) ≡ 1 + bit (leb S.publics v)
        go (yes p) =
            rw (le-leb S.publics v p) (ap (λ (xs : List ℕ). length xs)
            (releasing-gives S U n k m next.place next.goes next.has z v (there p (S.restricted z) refl)))
        go (no p) =
            let q : v < S.publics = omega arith in
            rw (lt-leb S.publics v q) (ap (λ (xs : List ℕ). length xs) (releasing-public S U n k m next.place next.goes next.has z v q))

  -- ---- copies: f from a

  module _ (n m k f a v : ℕ) (l : n < S.nodes) (u : m < S.nodes) (h : k < controls S n) (b : IsBound S U f) (r : S.restricted f ≡ false)
      (c : a < S.publics + S.bounds) (d : a ≡ f → ⊥) (i : member v (values_of S U a) ≡ true) (w : member v (values_of S U f) ≡ true) where
    pub copy-inputs : length (inputs (copying S U n m k f a v)) ≡ 1 + (bit (leb S.publics a) + bit (leb S.publics v))
    copy-inputs =
        ap (λ (xs : List ℕ). length xs) (copying-inputs S U n m k f a v r (has-control l h))
        ∙ length-append (numbers_for S U (equals a v ∷ differs f v ∷ [])) (number_of S U (control n k) ∷ [])
        ∙ rw (
          numbers-step S U (equals a v) (differs f v ∷ []) apart,
          numbers-step S U (differs f v) [] (λ e q. elim q [ ]),
          numbers-none S U,
          equals-bit a v c i,
          differs-bit f v b r w,
        ) (omega arith)
      where
        apart : exists S U (equals a v) ≡ true → Memᴰ (equals a v) (differs f v ∷ []) → ⊥
        apart e (Memᴰ.head q) = let z : ◌≡◌ {A = ℕ} 0 1 = cc in omega arith
        apart e (Memᴰ.tail m) = elim m [ ]

    pub copy-outputs : length (outputs (copying S U n m k f a v)) ≡ 2 + bit (leb S.publics a)
    copy-outputs =
        let next = next_place S U n k m l u in
        let e : exists S U (equals f v) ≡ true = has-exists S U (equals f v) (value-exists S U f v b w) in
        ap (λ (xs : List ℕ). length xs) (copying-outputs S U n k m next.place next.goes next.has f a v r)
        ∙ length-append (numbers_for S U (equals a v ∷ equals f v ∷ [])) (number_of S U next.place ∷ [])
        ∙ rw (
          numbers-step S U (equals a v) (equals f v ∷ []) apart,
          numbers-step S U (equals f v) [] (λ e q. elim q [ ]),
          numbers-none S U,
          equals-bit a v c i,
          e,
        ) (omega arith)
      where
        apart : exists S U (equals a v) ≡ true → Memᴰ (equals a v) (equals f v ∷ []) → ⊥
        apart e (Memᴰ.head q) = d (cc)
        apart e (Memᴰ.tail m) = elim m [ ]

  -- ---- New

  -- the names whose rows it reads: those that may hold private values
  abbrev pub is_name_read : ℕ → Bool
  is_name_read x = not (S.restricted x) && has_private_values S x

  abbrev pub read_rows : ℕ
  read_rows = length (keep is_name_read (from S.publics S.bounds))

  differ-count : (v : ℕ) → S.publics ≤ v → v < S.publics + U.privates → length (differ_numbers S U v S.publics S.bounds) ≡ read_rows
  unfolding differ_numbers
  differ-count v l u =
      length-map (keep (λ x. exists S U (differs x v)) (from S.publics S.bounds)) (λ x. number_of S U (differs x v))
      ∙ ap (λ (xs : List ℕ). length xs) (keep_same (λ x. exists S U (differs x v)) is_name_read (from S.publics S.bounds) each)
    where
      each : (x : ℕ) → member x (from S.publics S.bounds) ≡ true → exists S U (differs x v) ≡ is_name_read x
      each x m = go (S.restricted x) refl (has_private_values S x) refl
        where
          yes : S.restricted x ≡ false → U.reach x v ≡ true → exists S U (differs x v) ≡ true
          yes r q = has-exists S U (differs x v) (has-differs (from_member x S.publics S.bounds m) r (l, u) q)

          no : U.reach x v ≡ false → exists S U (differs x v) ≡ true → ⊥
          no q e = gone (exists-has S U (differs x v) e)
            where
              gone : Exists S U (differs x v) → ⊥
              gone (has-differs b r p e) = true≢false (sym e ∙ q)

          go : (b : Bool) → S.restricted x ≡ b → (c : Bool) → has_private_values S x ≡ c → exists S U (differs x v) ≡ (not b && c)
          go true r c e = differs-restricted S U x v r
          go false r true e = yes r (private-reach S x v l ∙ e)
          go false r false e = not-true-false (exists S U (differs x v)) (no (private-reach S x v l ∙ e))

  module _ (n r k v : ℕ) (l : n < S.nodes) (u : k < S.nodes) (h : S.restricted r ≡ true) (b : IsBound S U r) (p : S.publics ≤ v)
      (q : v < S.publics + U.privates) where
    first-has : (n : ℕ) → n < S.nodes → Exists S U (control n 0)
    first-has n l = has-control {n = n} {k = 0} l (omega (arith, some-control S U n))

    pub new-inputs : length (inputs (making S U n r k v)) ≡ read_rows + 2
    new-inputs =
        let D = differ_numbers S U v S.publics S.bounds in
        ap (λ (xs : List ℕ). length xs) (making-inputs S U n r k v h (p, omega arith) (first-has n l))
        ∙ omega (
          arith,
          length-append (D ++ (number_of S U (free v) ∷ [])) (number_of S U (control n 0) ∷ []),
          length-append D (number_of S U (free v) ∷ []),
          differ-count v p q,
        )

    pub new-outputs : length (outputs (making S U n r k v)) ≡ read_rows + 2
    new-outputs =
        let low = differ_numbers S U v S.publics (r - S.publics) in
        let high = differ_numbers S U v (r + 1) (S.publics + S.bounds - (r + 1)) in
        ap (λ (xs : List ℕ). length xs)
        (making-outputs S U n r k v h b (has-equals b (omega arith) (makes S ok r v h p)) (first-has k u))
        ∙ omega (
          arith,
          length-append (low ++ (number_of S U (equals r v) ∷ high)) (number_of S U (control k 0) ∷ []),
          length-append low (number_of S U (equals r v) ∷ high),
          length-append low high,
          ap (λ (xs : List ℕ). length xs) (differ-split S U v r b h),
          differ-count v p q,
        )
