-- Whether a marking stands for a state, and the configuration that it has, by the numbers of places.
use mathlib.Core.Path.{◌≡◌, refl, ap, ◌∙◌}
use mathlib.Core.Bool.{Bool, true, false, not, ◌&&◌, ◌||◌}
use mathlib.Core.Option.{some}
use mathlib.Core.List.{List, [], ◌∷◌}
use Prim.Native.Nat.{ℕ, zero, suc, ◌+◌, ◌≤◌, ◌<◌}
use native.Mathlib.Omega.{arith}
use lib.Dec.{ltb}
use lib.ListN.{length}
use borrow.Author.Tests.{le-ltb}
use Rattle.lists.specs.Lists.{pick, same, from, range, every, keep}
use Rattle.lists.proofs.Ranges.{from_member, every-same}
use Rattle.lists.proofs.Members.{keep_same}
use Rattle.scheme.specs.Scheme.{Scheme}
use Rattle.table.specs.Accepted.{Accepted}
use Rattle.net.specs.Firing.{is_marking}
use Rattle.places.specs.Values.{Values, private_value_list, private_values_of}
use Rattle.places.specs.Reach.{values_for, has_private_values}
use Rattle.places.specs.Places.{Place, equals, differs, free, places}
use Rattle.places.specs.Rows.{row_start_of, free_start_of, has-equals, has-differs, has-free}
use Rattle.places.proofs.ReachRows.{private-reach, privates-are, equals-private, differs-private, restricted-alone, restricted-yes}
use Rattle.readback.specs.Configurations.{Spot}
use Rattle.readback.specs.Reading.{marked, has, first_spot, first_value_of, configuration}
use Rattle.readback.specs.Reading.{has_one_spot, is_one_value, opposite, free_right, stands_for_state}
use Rattle.readback.specs.Inner.Hits.{token}
use Rattle.readback.specs.Inner.Standing.{first_of, value_of, is_just_one, public_count, private_count}
use Rattle.readback.specs.Inner.Standing.{spots_at, values_at, opposed_at, opposed_all, holders_at, freed_all}
use Rattle.readback.specs.Inner.Standing.{spots_right, values_right, held_bit}
use Rattle.readback.proofs.Marked.{chosen, marked-keep, has-number}
use Rattle.readback.proofs.Gathered.{spots-are, values-are}

every-shift : (p : ℕ → Bool) (a b n : ℕ) → every p (from (a + b) n) ≡ every (λ i. p (a + i)) (from b n)
unfolding every from
every-shift p a b zero = refl
every-shift p a b (suc n) = let e : a + b + 1 ≡ a + (b + 1) = omega arith in rw (e, every-shift p a (b + 1) n)

every-from : (p : ℕ → Bool) (a n : ℕ) → every p (from a n) ≡ every (λ i. p (a + i)) (range n)
every-from p a n = let e : a ≡ a + 0 = omega arith in ap (λ (k : ℕ). every p (from k n)) e ∙ every-shift p a 0 n

just-one : (a b : Bool) → pick b (not a) a ≡ is_just_one a b
just-one true true = refl
just-one true false = refl
just-one false true = refl
just-one false false = refl

none : (p q : ℕ → Bool) → every p [] ≡ every q (range 0)
unfolding every from
none p q = refl

module _ (S : Scheme) (A : Accepted S) (m : List ℕ) where
  abbrev U : Values
  U = values_for S

  abbrev ms : List Place
  ms = keep (chosen S U m) (places S U)

  -- ---- the configuration

  first-spot : (l : List Spot) → first_spot S U ms l ≡ first_of l
  first-spot [] = refl
  first-spot (p ∷ ps) = refl

  first-value : (l : List ℕ) → first_value_of S U ms l ≡ value_of l
  first-value [] = refl
  first-value (v ∷ vs) = refl

  at-is : (t : ℕ) → (configuration S U ms).at t ≡ first_of (spots_at S m t)
  unfolding configuration
  at-is t = rw (spots-are S m t) (first-spot (spots_at S m t))

  value-is : (x : ℕ) → S.publics ≤ x → x < S.publics + S.bounds → (configuration S U ms).value x ≡ value_of (values_at S m x)
  unfolding configuration
  value-is x lo hi = rw (le-ltb x S.publics lo, values-are S m x lo hi) (first-value (values_at S m x))

  public-is : (x : ℕ) → ltb x S.publics ≡ true → (configuration S U ms).value x ≡ some x
  unfolding configuration
  public-is x h = rw h

  -- ---- places by their numbers

  has_equal : (x i : ℕ) → S.publics ≤ x → x < S.publics + S.bounds → i < U.privates → has_private_values S x ≡ true
      → has ms (equals x (S.publics + i)) ≡ token m (row_start_of S U x + public_count S x + i)
  has_equal x i lo hi l r =
      has-number S U m (equals x (S.publics + i)) (has-equals (lo, hi) (omega arith) (private-reach S x (S.publics + i) (omega arith) ∙ r))
      ∙ ap (token m) (equals-private S x (S.publics + i) (omega arith) r ∙ omega arith)

  has-taken : (x i : ℕ) → S.publics ≤ x → x < S.publics + S.bounds → i < U.privates → S.restricted x ≡ true
      → has ms (equals x (S.publics + i)) ≡ token m (row_start_of S U x + i)
  has-taken x i lo hi l r =
      has_equal x i lo hi l (restricted-yes S A x r)
      ∙ ap (token m) (omega (arith, ap (λ (l : List ℕ). length l) (restricted-alone S A x r)))

  has-different : (x i : ℕ) → S.publics ≤ x → x < S.publics + S.bounds → i < U.privates → S.restricted x ≡ false → has_private_values S x ≡ true
      → has ms (differs x (S.publics + i)) ≡ token m (row_start_of S U x + public_count S x + U.privates + i)
  has-different x i lo hi l f r =
      has-number S U m (differs x (S.publics + i))
      (has-differs (lo, hi) f (omega arith, omega arith) (private-reach S x (S.publics + i) (omega arith) ∙ r))
      ∙ ap (token m) (differs-private S x (S.publics + i) lo r ∙ omega arith)

  has_left : (i : ℕ) → i < U.privates → has ms (free (S.publics + i)) ≡ token m (free_start_of S U + i)
  has_left i l = has-number S U m (free (S.publics + i)) (has-free (omega arith, omega arith)) ∙ ap (token m) (omega arith)

  -- ---- the four tests

  spots-right : every (has_one_spot S U ms) (range S.threads) ≡ spots_right S m
  unfolding spots_right
  spots-right = every-same (has_one_spot S U ms) (λ t. same (length (spots_at S m t)) 1) (range S.threads) (λ t i. rw (spots-are S m t))

  values-right : every (is_one_value S U ms) (from S.publics S.bounds) ≡ values_right S m (held_bit S m)
  unfolding values_right
  values-right =
      every-same (is_one_value S U ms) (λ x. same (length (values_at S m x)) (held_bit S m x)) (from S.publics S.bounds)
      (λ x i.
      let b = from_member x S.publics S.bounds i in
      rw (values-are S m x b.0 b.1, at-is (S.thread_of_name x)))

  opposite-right : (x : ℕ) → S.publics ≤ x → x < S.publics + S.bounds → S.restricted x ≡ false
      → every (opposite S U ms x) (private_values_of S U x) ≡ every (opposed_at S m x) (range (private_count S x))
  opposite-right x lo hi r = ap (every (opposite S U ms x)) (privates-are S x) ∙ go (has_private_values S x) refl
    where
      go : (b : Bool) → has_private_values S x ≡ b
          → every (opposite S U ms x) (pick b (from S.publics U.privates) []) ≡ every (opposed_at S m x) (range (pick b U.privates 0))
      go true e =
          every-from (opposite S U ms x) S.publics U.privates
          ∙ every-same (λ i. opposite S U ms x (S.publics + i)) (opposed_at S m x) (range U.privates)
          (λ i k.
          let l : i < U.privates = omega (arith, from_member i 0 U.privates k) in
          rw (has-different x i lo hi l r e, has_equal x i lo hi l e, e)
          (just-one (token m (row_start_of S U x + public_count S x + i)) (token m (row_start_of S U x + public_count S x + U.privates + i))))
      go false e = none (opposite S U ms x) (opposed_at S m x)

  opposed-right : every (λ x. S.restricted x || every (opposite S U ms x) (private_values_of S U x)) (from S.publics S.bounds) ≡ opposed_all S m
  unfolding opposed_all
  opposed-right =
      every-same (λ x. S.restricted x || every (opposite S U ms x) (private_values_of S U x))
      (λ x. S.restricted x || every (opposed_at S m x) (range (private_count S x))) (from S.publics S.bounds)
      (λ x i. let b = from_member x S.publics S.bounds i in go x b.0 b.1 (S.restricted x) refl)
    where
      go : (x : ℕ) → S.publics ≤ x → x < S.publics + S.bounds → (b : Bool) → S.restricted x ≡ b
          → (b || every (opposite S U ms x) (private_values_of S U x)) ≡ (b || every (opposed_at S m x) (range (private_count S x)))
      go x lo hi true r = refl
      go x lo hi false r = opposite-right x lo hi r

  holders-are : (i : ℕ) → i < U.privates → keep (λ x. S.restricted x && has ms (equals x (S.publics + i))) (from S.publics S.bounds) ≡ holders_at S m i
  holders-are i l =
      keep_same (λ x. S.restricted x && has ms (equals x (S.publics + i))) (λ x. S.restricted x && token m (row_start_of S U x + i))
      (from S.publics S.bounds)
      (λ x k. let b = from_member x S.publics S.bounds k in go x b.0 b.1 (S.restricted x) refl)
    where
      go : (x : ℕ) → S.publics ≤ x → x < S.publics + S.bounds → (b : Bool) → S.restricted x ≡ b
          → (b && has ms (equals x (S.publics + i))) ≡ (b && token m (row_start_of S U x + i))
      go x lo hi true r = has-taken x i lo hi l r
      go x lo hi false r = refl

  freed-right : every (free_right S U ms) (private_value_list S U) ≡ freed_all S m
  unfolding freed_all
  freed-right =
      every-from (free_right S U ms) S.publics U.privates
      ∙ every-same (λ i. free_right S U ms (S.publics + i))
      (λ n. same (length (holders_at S m n)) (pick (token m (free_start_of S U + n)) 0 1)) (range U.privates)
      (λ i k.
      let l : i < U.privates = omega (arith, from_member i 0 U.privates k) in
      rw (holders-are i l, has_left i l))

  -- ---- a marking of the net

  module _ (h : is_marking (length (places S U)) m ≡ true) where
    pub stands-is : stands_for_state S U (marked (places S U) m)
        ≡ (spots_right S m && (values_right S m (held_bit S m) && (opposed_all S m && freed_all S m)))
    unfolding stands_for_state
    stands-is = rw (marked-keep S U m h, spots-right, values-right, opposed-right, freed-right)

    pub read_at : (t : ℕ) → (configuration S U (marked (places S U) m)).at t ≡ first_of (spots_at S m t)
    read_at t = rw (marked-keep S U m h) (at-is t)

    pub read-value : (x : ℕ) → S.publics ≤ x → x < S.publics + S.bounds
        → (configuration S U (marked (places S U) m)).value x ≡ value_of (values_at S m x)
    read-value x lo hi = rw (marked-keep S U m h) (value-is x lo hi)

    pub read-public : (x : ℕ) → ltb x S.publics ≡ true → (configuration S U (marked (places S U) m)).value x ≡ some x
    read-public x l = rw (marked-keep S U m h) (public-is x l)
