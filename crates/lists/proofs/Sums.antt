-- Sums over lists made by ++, map and flat, and their bounds.
use mathlib.Core.Path.{◌≡◌, refl}
use mathlib.Core.Bool.{Bool, true, false, not}
use mathlib.Core.List.{List, [], ◌∷◌, ◌++◌, map}
use Prim.Native.Nat.{ℕ, suc, ◌+◌, ◌-◌, ◌*◌, ◌≤◌}
use native.Mathlib.Nat.{suc-mul}
use native.Mathlib.Omega.{arith}
use lib.ListN.{length}
use Rattle.lists.specs.Lists.{pick, from, keep, flat, member, total}
use Rattle.lists.proofs.Ranges.{from-snoc}
use Rattle.lists.proofs.Members.{member-here, member-there}

module _ {A : Type 0} (f : A → ℕ) where
  -- the sum of a number of each element
  abbrev pub sum : List A → ℕ
  sum xs = total (map f xs)

  pub sum-append : (xs ys : List A) → sum (xs ++ ys) ≡ sum xs + sum ys
  unfolding total
  sum-append [] ys = omega arith
  sum-append (x ∷ xs) ys = omega (arith, sum-append xs ys)

  pub sum-map : (g : ℕ → A) (k : ℕ) → ((v : ℕ) → f (g v) ≤ k) → (vs : List ℕ) → sum (map g vs) ≤ length vs * k
  unfolding total
  sum-map g k h [] = omega arith
  sum-map g k h (v ∷ vs) = omega (arith, h v, sum-map g k h vs, suc-mul (length vs) k)

  pub sum-flat : (g : ℕ → List A) (k : ℕ) (xs : List ℕ) → ((x : ℕ) → member x xs ≡ true → sum (g x) ≤ k) → sum (flat g xs) ≤ length xs * k
  unfolding total flat
  sum-flat g k [] h = omega arith
  sum-flat g k (x ∷ xs) h =
      omega (
        arith,
        sum-append (g x) (flat g xs),
        h x (member-here x xs),
        sum-flat g k xs (λ z m. h z (member-there z x xs m)),
        suc-mul (length xs) k,
      )

  -- only the lists of numbers that pass count
  pub sum_kept : (g : ℕ → List A) (q : ℕ → Bool) (k : ℕ) → ((x : ℕ) → sum (g x) ≤ pick (q x) k 0) → (xs : List ℕ)
      → sum (flat g xs) ≤ length (keep q xs) * k
  unfolding total flat keep
  sum_kept g q k h [] = omega arith
  sum_kept g q k h (x ∷ xs) = go (q x) refl (h x) (sum_kept g q k h xs)
    where
      go : (b : Bool) → q x ≡ b → sum (g x) ≤ pick (q x) k 0 → sum (flat g xs) ≤ length (keep q xs) * k
          → sum (g x ++ flat g xs) ≤ length (pick (q x) (x ∷ keep q xs) (keep q xs)) * k
      go true e l ih = rw e (let u : sum (g x) ≤ k = rw e at l in omega (arith, sum-append (g x) (flat g xs), suc-mul (length (keep q xs)) k))
      go false e l ih = rw e (let u : sum (g x) ≤ 0 = rw e at l in omega (arith, sum-append (g x) (flat g xs)))

-- a sum of numbers none of which is above k
pub sum-few : (f : ℕ → ℕ) (k : ℕ) (xs : List ℕ) → ((x : ℕ) → member x xs ≡ true → f x ≤ k) → total (map f xs) ≤ length xs * k
unfolding total
sum-few f k [] h = omega arith
sum-few f k (x ∷ xs) h =
    omega (arith, h x (member-here x xs), sum-few f k xs (λ z m. h z (member-there z x xs m)), suc-mul (length xs) k)

-- ---- sums over ranges, and of numbers that are one of two

pub total-snoc : (f : ℕ → ℕ) (y : ℕ) (xs : List ℕ) → total (map f (xs ++ (y ∷ []))) ≡ total (map f xs) + f y
unfolding total
total-snoc f y [] = omega arith
total-snoc f y (x ∷ xs) = omega (arith, total-snoc f y xs)

pub total-next : (f : ℕ → ℕ) (a x : ℕ) → a ≤ x → total (map f (from a (x + 1 - a))) ≡ total (map f (from a (x - a))) + f x
total-next f a x h =
    let e : x + 1 - a ≡ suc (x - a) = omega arith in
    let g : a + (x - a) ≡ x = omega arith in
    rw (e, from-snoc a (x - a), g) (total-snoc f x (from a (x - a)))

-- a sum over names that have one of two numbers
pub total-pick : (f : ℕ → ℕ) (q : ℕ → Bool) (a b : ℕ) (xs : List ℕ) → ((x : ℕ) → member x xs ≡ true → f x ≡ pick (q x) a b)
    → total (map f xs) ≡ length (keep q xs) * a + length (keep (λ x. not (q x)) xs) * b
unfolding keep total
total-pick f q a b [] h = omega arith
total-pick f q a b (x ∷ xs) h = go (q x) refl (h x (member-here x xs)) (total-pick f q a b xs (λ z m. h z (member-there z x xs m)))
  where
    go : (c : Bool) → q x ≡ c → f x ≡ pick (q x) a b
        → total (map f xs) ≡ length (keep q xs) * a + length (keep (λ x. not (q x)) xs) * b
        → f x + total (map f xs)
        ≡ length (pick (q x) (x ∷ keep q xs) (keep q xs)) * a
        + length (pick (not (q x)) (x ∷ keep (λ x. not (q x)) xs) (keep (λ x. not (q x)) xs)) * b
    go true e k ih = rw (k, ih, e, suc-mul (length (keep q xs)) a) (omega arith)
    go false e k ih = rw (k, ih, e, suc-mul (length (keep (λ x. not (q x)) xs)) b) (omega arith)
