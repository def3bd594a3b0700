-- The order of places: each place between the start of its part and the start of the next, for any values. omega decides any order from these.
use Rattle.std.proofs.Common.{◌≡◌, ℕ, zero, suc, ◌+◌, ◌-◌, ◌<◌, ◌≤◌, Bool, true, List, ◌∷◌, ◌++◌, length, ap, ◌∙◌, arith, length-append}
use Rattle.lists.specs.Lists.{from, range, keep}
use Rattle.lists.proofs.Ranges.{from-append}
use Rattle.lists.proofs.Members.{keep_append}
use Rattle.scheme.specs.Scheme.{Scheme}
use Rattle.places.specs.Values.{Values, values_of, private_values_of}
use Rattle.places.specs.Places.{equals, differs, free, control}
use Rattle.places.specs.Rows.{row_length, row_start_of, free_start_of, control_start, number_of, IsBound, Exists, has-equals, has-differs, has-free, has-control}
use Rattle.places.proofs.Rows.{values-bound, row_next, control-first, control-next}

-- what passes among the numbers from a to v, v itself passing, is less than what passes among n
kept-below : (q : ℕ → Bool) (a n v : ℕ) → a ≤ v → v < a + n → q v ≡ true → length (keep q (from a (v - a))) < length (keep q (from a n))
unfolding keep from
kept-below q a n v l u h =
    let e : n ≡ (v - a) + suc (a + n - (v + 1)) = omega arith in
    let f : a + (v - a) ≡ v = omega arith in
    let s : keep q (from a n) ≡ keep q (from a (v - a)) ++ (v ∷ keep q (from (v + 1) (a + n - (v + 1)))) =
    ap (λ (k : ℕ). keep q (from a k)) e
    ∙ rw (from-append a (v - a) (suc (a + n - (v + 1))), keep_append q (from a (v - a)) (from (a + (v - a)) (suc (a + n - (v + 1)))), f, h) in
    omega (
      arith,
      ap (λ (xs : List ℕ). length xs) s,
      length-append (keep q (from a (v - a))) (v ∷ keep q (from (v + 1) (a + n - (v + 1)))),
    )

-- a sequence that never falls
rises : (f : ℕ → ℕ) (lo : ℕ) → ((x : ℕ) → lo ≤ x → f x ≤ f (x + 1)) → (x n : ℕ) → lo ≤ x → f x ≤ f (x + n)
rises f lo h x zero l = let e : x + 0 ≡ x = omega arith in rw e (omega arith)
rises f lo h x (suc n) l =
    let e : x + suc n ≡ x + n + 1 = omega arith in
    rw e (omega (arith, rises f lo h x n l, h (x + n) (omega arith)))

module _ (S : Scheme) (U : Values) where
  -- ---- starts never fall

  pub row-rises : (x y : ℕ) → S.publics ≤ x → x ≤ y → row_start_of S U x ≤ row_start_of S U y
  row-rises x y l h =
      let e : x + (y - x) ≡ y = omega arith in
      rw e at (rises (row_start_of S U) S.publics (λ z k. omega (arith, row_next S U z k)) x (y - x) l)

  pub row_ends : (x : ℕ) → IsBound S U x → row_start_of S U (x + 1) ≤ free_start_of S U
  unfolding free_start_of
  row_ends x b = row-rises (x + 1) (S.publics + S.bounds) (omega (arith, b.0)) (omega (arith, b.1))

  pub control-rises : (n m : ℕ) → n ≤ m → control_start S U n ≤ control_start S U m
  control-rises n m h =
      let e : n + (m - n) ≡ m = omega arith in
      rw e at (rises (control_start S U) 0 (λ z k. omega (arith, control-next S U z)) n (m - n) (omega arith))

  -- ---- each place in its part

  pub equals-inside : (x v : ℕ) → Exists S U (equals x v)
      → (row_start_of S U x ≤ number_of S U (equals x v)) × (number_of S U (equals x v) < row_start_of S U x + length (values_of S U x))
  equals-inside x v (has-equals b u r) =
      let e : v - 0 ≡ v = omega arith in
      let k = rw e at (kept-below (U.reach x) 0 (S.publics + U.privates) v (omega arith) (omega arith) r) in
      let w : length (values_of S U x) ≡ length (keep (U.reach x) (range (S.publics + U.privates))) =
      ap (λ (xs : List ℕ). length xs) (values-bound S U x b.0) in
      (omega arith, omega arith)

  pub differs-inside : (x v : ℕ) → Exists S U (differs x v)
      → (row_start_of S U x + length (values_of S U x) ≤ number_of S U (differs x v)) × (number_of S U (differs x v) < row_start_of S U (x + 1))
  unfolding row_length private_values_of
  differs-inside x v (has-differs b n u r) =
      let k = kept-below (U.reach x) S.publics U.privates v u.0 u.1 r in
      let w : row_length S U x ≡ length (values_of S U x) + length (keep (U.reach x) (from S.publics U.privates)) = rw n in
      (omega arith, omega (arith, row_next S U x b.0))

  pub values-inside : (x : ℕ) → S.publics ≤ x → row_start_of S U x + length (values_of S U x) ≤ row_start_of S U (x + 1)
  unfolding row_length
  values-inside x h = omega (arith, row_next S U x h)

  pub free-inside : (v : ℕ) → Exists S U (free v) → (free_start_of S U ≤ number_of S U (free v)) × (number_of S U (free v) < control_start S U 0)
  free-inside v (has-free u) = (omega arith, omega (arith, control-first S U, u.0, u.1))

  pub control-inside : (n k : ℕ) → Exists S U (control n k)
      → (control_start S U n ≤ number_of S U (control n k)) × (number_of S U (control n k) < control_start S U (n + 1))
  control-inside n k (has-control l u) = (omega arith, omega (arith, control-next S U n))

  -- ---- the order that arcs need most: by name, [x=v] before [x≠v], then [*≠v], then control places by node

  -- the start of the row of a place's name, and where that row ends
  pub row-of-equals : (x v : ℕ) → Exists S U (equals x v) → (row_start_of S U x ≤ number_of S U (equals x v)) × (number_of S U (equals x v) < row_start_of S U (x + 1))
  row-of-equals x v e =
      let i = equals-inside x v e in
      (i.0, omega (arith, i.1, values-inside x (low e)))
    where
      low : Exists S U (equals x v) → S.publics ≤ x
      low (has-equals b u r) = b.0

  pub free-before-controls : (n : ℕ) → free_start_of S U ≤ control_start S U n
  free-before-controls n = omega (arith, control-first S U, control-rises 0 n (omega arith))

  pub controls-after : (n : ℕ) → control_start S U 0 ≤ control_start S U n
  controls-after n = control-rises 0 n (omega arith)
