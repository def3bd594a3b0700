-- What stands in lists of any elements.
use mathlib.Core.Path.{◌≡◌, refl, ap}
use mathlib.Core.Bool.{Bool, true, false}
use mathlib.Core.List.{List, [], ◌∷◌, map, Memᴰ}
use mathlib.Core.Logic.{◌⊎◌, inl, inr}
use Prim.Native.Nat.{ℕ, suc, ◌≤◌}
use native.Mathlib.Omega.{arith}
use lib.ListN.{length}
use Rattle.lists.specs.Lists.{pick, some, keep, member}
use Rattle.lists.proofs.Tests.{false-true, or_cases, or_left, or_right}
use Rattle.lists.proofs.Members.{member-here, member-there, member-cases, member-nil}

module _ {A : Type 0} where
  -- an element of xs of which P holds
  pub record Found (P : A → Type 0) (xs : List A) : Type 0 where
    pub element : A
    pub stands : Memᴰ element xs
    pub holds : P element

  pub found-more : {P : A → Type 0} {x : A} {xs : List A} → Found P xs → Found P (x ∷ xs)
  found-more f = record { element = f.element; stands = Memᴰ.tail f.stands; holds = f.holds }

  pub map-in : {B : Type 0} (f : A → B) (y : B) (xs : List A) → Memᴰ y (map f xs) → Found (λ x. y ≡ f x) xs
  map-in {B = B} f y [] x' = elim x' [ ]
  map-in f y (x ∷ xs) (Memᴰ.head e) = record { element = x; stands = Memᴰ.head refl; holds = e }
  map-in f y (x ∷ xs) (Memᴰ.tail m) = found-more {P = λ x. y ≡ f x} (map-in f y xs m)

  pub in_map : {B : Type 0} (f : A → B) (x : A) (xs : List A) → Memᴰ x xs → Memᴰ (f x) (map f xs)
  in_map {B = B} f x [] x'' = elim x'' [ ]
  in_map f x (y ∷ xs) (Memᴰ.head e) = Memᴰ.head (ap f e)
  in_map f x (y ∷ xs) (Memᴰ.tail m) = Memᴰ.tail (in_map f x xs m)

  module _ (q : A → Bool) where
    pub some_in : (x : A) (xs : List A) → Memᴰ x xs → q x ≡ true → some q xs ≡ true
    unfolding some
    some_in x [] x3 h = elim x3 [ ]
    some_in x (y ∷ xs) (Memᴰ.head e) h = or_left (q y) (some q xs) (rw e at h)
    some_in x (y ∷ xs) (Memᴰ.tail m) h = or_right (q y) (some q xs) (some_in x xs m h)

    pub some-map : {B : Type 0} (f : A → B) (y : B) (xs : List A) → ((x : A) → q x ≡ true → y ≡ f x) → some q xs ≡ true → Memᴰ y (map f xs)
    unfolding some
    some-map f y [] g h = false-true refl h
    some-map f y (x ∷ xs) g h = go (or_cases (q x) (some q xs) h) (some-map f y xs g)
      where
        go : (q x ≡ true) ⊎ (some q xs ≡ true) → (some q xs ≡ true → Memᴰ y (map f xs)) → Memᴰ y (f x ∷ map f xs)
        go (inl e) ih = Memᴰ.head (g x e)
        go (inr e) ih = Memᴰ.tail (ih e)

    pub in-keep : (x : A) (xs : List A) → Memᴰ x xs → q x ≡ true → Memᴰ x (keep q xs)
    unfolding keep
    in-keep x [] x3 h = elim x3 [ ]
    in-keep x (y ∷ xs) (Memᴰ.head e) h = let k : q y ≡ true = rw e at h in rw k (Memᴰ.head e)
    in-keep x (y ∷ xs) (Memᴰ.tail m) h = go (q y) (in-keep x xs m h)
      where
        go : (b : Bool) → Memᴰ x (keep q xs) → Memᴰ x (pick b (y ∷ keep q xs) (keep q xs))
        go true k = Memᴰ.tail k
        go false k = k

    pub keep-in : (x : A) (xs : List A) → Memᴰ x (keep q xs) → Memᴰ x xs × (q x ≡ true)
    unfolding keep
    keep-in x [] m = elim m [ ]
    keep-in x (y ∷ xs) m = go (q y) refl m (keep-in x xs)
      where
        more : Memᴰ x xs × (q x ≡ true) → Memᴰ x (y ∷ xs) × (q x ≡ true)
        more r = (Memᴰ.tail r.0, r.1)

        go : (b : Bool) → q y ≡ b → Memᴰ x (pick b (y ∷ keep q xs) (keep q xs)) → (Memᴰ x (keep q xs) → Memᴰ x xs × (q x ≡ true))
            → Memᴰ x (y ∷ xs) × (q x ≡ true)
        go true e (Memᴰ.head f) ih = (Memᴰ.head f, rw f e)
        go true e (Memᴰ.tail k) ih = more (ih k)
        go false e k ih = more (ih k)

    pub kept-length : (xs : List A) → length (keep q xs) ≤ length xs
    unfolding keep
    kept-length [] = omega arith
    kept-length (x ∷ xs) = go (q x) (kept-length xs)
      where
        go : (b : Bool) → length (keep q xs) ≤ length xs → length (pick b (x ∷ keep q xs) (keep q xs)) ≤ suc (length xs)
        go true h = omega arith
        go false h = omega arith

  pub number_in : (f : A → ℕ) (k : ℕ) (xs : List A) → member k (map f xs) ≡ true → Found (λ x. k ≡ f x) xs
  number_in f k [] m = member-nil k m
  number_in f k (x ∷ xs) m = go (member-cases k (f x) (map f xs) m) (number_in f k xs)
    where
      go : (k ≡ f x) ⊎ (member k (map f xs) ≡ true) → (member k (map f xs) ≡ true → Found (λ x. k ≡ f x) xs) → Found (λ x. k ≡ f x) (x ∷ xs)
      go (inl e) ih = record { element = x; stands = Memᴰ.head refl; holds = e }
      go (inr e) ih = found-more {P = λ x. k ≡ f x} (ih e)

  pub in-number : (f : A → ℕ) (x : A) (xs : List A) → Memᴰ x xs → member (f x) (map f xs) ≡ true
  in-number f x [] x'' = elim x'' [ ]
  in-number f x (y ∷ xs) (Memᴰ.head e) = rw e (member-here (f y) (map f xs))
  in-number f x (y ∷ xs) (Memᴰ.tail m) = member-there (f x) (f y) (map f xs) (in-number f x xs m)

pub member-in : (x : ℕ) (xs : List ℕ) → member x xs ≡ true → Memᴰ x xs
member-in x [] m = member-nil x m
member-in x (y ∷ xs) m = go (member-cases x y xs m) (member-in x xs)
  where
    go : (x ≡ y) ⊎ (member x xs ≡ true) → (member x xs ≡ true → Memᴰ x xs) → Memᴰ x (y ∷ xs)
    go (inl e) ih = Memᴰ.head e
    go (inr e) ih = Memᴰ.tail (ih e)
