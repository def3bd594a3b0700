-- Elements of appended, mapped and flattened lists, of ranges, and at positions.
use Prim.Native.Nat.{ℕ, zero, suc, ◌≤◌, ◌<◌}
use mathlib.Core.Path.{◌≡◌, refl}
use mathlib.Core.Logic.{◌⊎◌, inl, inr}
use mathlib.Core.Bool.{Bool, true, false≢true}
use mathlib.Core.List.{List, [], ◌∷◌, ◌++◌, map}
use native.Mathlib.Omega.{arith}
use native.Mathlib.Nat.{not-suc-le-zero, le_of_suc-le-suc}
use lib.ListN.{length, get_or}
use Rattle.lists.specs.Lists as Lists
use Rattle.lists.specs.Lists.{from, flat, member}
use Rattle.lists.proofs.Tests.{or_cases, or_left, or_right}
use Rattle.lists.proofs.Members.{member-here, member-there, member-cases, member-nil}

pub data Element {A : Type 0} (x : A) : List A → Type 0 where
  here : {xs : List A} → Element x (x ∷ xs)
  there : {y : A} {xs : List A} → Element x xs → Element x (y ∷ xs)

module _ {A : Type 0} where
  some-length : {x : A} {xs : List A} → Element x xs → 1 ≤ length xs
  some-length here = omega arith
  some-length (there e) = omega arith

  pub no-element : {B : Type 0} {x : A} → Element x [] → B
  no-element e = absurd (not-suc-le-zero (some-length e))

  pub element-cases : {x y : A} {xs : List A} → Element x (y ∷ xs) → (x ≡ y) ⊎ Element x xs
  element-cases here = inl refl
  element-cases (there e) = inr e

  pub element-left : {x : A} (xs ys : List A) → Element x xs → Element x (xs ++ ys)
  element-left [] ys x'' = elim x'' [ ]
  element-left (y ∷ xs) ys here = here
  element-left (y ∷ xs) ys (there e) = there (element-left xs ys e)

  pub element-right : {x : A} (xs ys : List A) → Element x ys → Element x (xs ++ ys)
  element-right [] ys e = e
  element-right (y ∷ xs) ys e = there (element-right xs ys e)

  pub append-element : {x : A} (xs ys : List A) → Element x (xs ++ ys) → Element x xs ⊎ Element x ys
  append-element [] ys e = inr e
  append-element (y ∷ xs) ys here = inl here
  append-element {x} (y ∷ xs) ys (there e) = go (append-element xs ys e)
    where
      go : Element x xs ⊎ Element x ys → Element x (y ∷ xs) ⊎ Element x ys
      go (inl p) = inl (there p)
      go (inr q) = inr q

  -- ---- positions

  pub element-at : (d : A) (xs : List A) (k : ℕ) → k < length xs → Element (get_or xs k d) xs
  element-at d [] k h = absurd (not-suc-le-zero h)
  element-at d (y ∷ xs) zero h = here
  element-at d (y ∷ xs) (suc k) h = there (element-at d xs k (le_of_suc-le-suc h))

  pub element-position : {x : A} (d : A) (xs : List A) → Element x xs → (k : ℕ) × (k < length xs) × (get_or xs k d ≡ x)
  element-position d [] x'' = elim x'' [ ]
  element-position d (y ∷ xs) here = (0, omega arith, refl)
  element-position d (y ∷ xs) (there e) = let (k, l, q) = element-position d xs e in (suc k, omega arith, q)

  -- ---- some element passes

  pub some-element : (p : A → Bool) (xs : List A) → Lists.some p xs ≡ true → (x : A) × Element x xs × (p x ≡ true)
  unfolding Lists.some
  some-element p [] h = absurd (false≢true h)
  some-element p (y ∷ xs) h = go (or_cases (p y) (Lists.some p xs) h) (some-element p xs)
    where
      go : (p y ≡ true) ⊎ (Lists.some p xs ≡ true) → (Lists.some p xs ≡ true → (x : A) × Element x xs × (p x ≡ true))
          → (x : A) × Element x (y ∷ xs) × (p x ≡ true)
      go (inl e) ih = (y, here, e)
      go (inr e) ih = let (x, i, q) = ih e in (x, there i, q)

  pub element-some : (p : A → Bool) {x : A} (xs : List A) → Element x xs → p x ≡ true → Lists.some p xs ≡ true
  unfolding Lists.some
  element-some p [] x3 h = elim x3 [ ]
  element-some p (y ∷ xs) here h = or_left (p y) (Lists.some p xs) h
  element-some p (y ∷ xs) (there e) h = or_right (p y) (Lists.some p xs) (element-some p xs e h)

module _ {A B : Type 0} (f : A → B) where
  pub element-map : {x : A} (xs : List A) → Element x xs → Element (f x) (map f xs)
  element-map [] x'' = elim x'' [ ]
  element-map (y ∷ xs) here = here
  element-map (y ∷ xs) (there e) = there (element-map xs e)

  pub map-element : {z : B} (xs : List A) → Element z (map f xs) → (x : A) × Element x xs × (z ≡ f x)
  map-element [] e = no-element e
  map-element {z} (y ∷ xs) e = go (element-cases e) (map-element xs)
    where
      go : (z ≡ f y) ⊎ Element z (map f xs) → (Element z (map f xs) → (x : A) × Element x xs × (z ≡ f x))
          → (x : A) × Element x (y ∷ xs) × (z ≡ f x)
      go (inl p) ih = (y, here, p)
      go (inr q) ih = let (x, i, r) = ih q in (x, there i, r)

module _ {A B : Type 0} (f : A → List B) where
  pub element-flat : {z : B} {x : A} (xs : List A) → Element x xs → Element z (f x) → Element z (flat f xs)
  unfolding flat
  element-flat {z = z} [] x3 i = elim x3 [ ]
  element-flat (y ∷ xs) here i = element-left (f y) (flat f xs) i
  element-flat (y ∷ xs) (there e) i = element-right (f y) (flat f xs) (element-flat xs e i)

  pub flat-element : {z : B} (xs : List A) → Element z (flat f xs) → (x : A) × Element x xs × Element z (f x)
  unfolding flat
  flat-element [] e = no-element e
  flat-element {z} (y ∷ xs) e = go (append-element (f y) (flat f xs) e) (flat-element xs)
    where
      go : Element z (f y) ⊎ Element z (flat f xs) → (Element z (flat f xs) → (x : A) × Element x xs × Element z (f x))
          → (x : A) × Element x (y ∷ xs) × Element z (f x)
      go (inl p) ih = (y, here, p)
      go (inr q) ih = let (x, i, j) = ih q in (x, there i, j)

-- ---- numbers

pub element-member : {x : ℕ} (xs : List ℕ) → Element x xs → member x xs ≡ true
element-member {x = x} [] x'' = elim x'' [ ]
element-member {x} (y ∷ xs) here = member-here x xs
element-member {x} (y ∷ xs) (there e) = member-there x y xs (element-member xs e)

pub member-element : (x : ℕ) (xs : List ℕ) → member x xs ≡ true → Element x xs
member-element x [] h = member-nil x h
member-element x (y ∷ xs) h = go (member-cases x y xs h) (member-element x xs)
  where
    go : (x ≡ y) ⊎ (member x xs ≡ true) → (member x xs ≡ true → Element x xs) → Element x (y ∷ xs)
    go (inl p) ih = rw p here
    go (inr q) ih = there (ih q)
