-- Laws of Booleans, of `same` and of `pick`.
use mathlib.Core.Path.{◌≡◌, refl, sym, ◌∙◌}
use mathlib.Core.Bool.{Bool, true, false, ◌&&◌, ◌||◌, true≢false, false≢true}
use mathlib.Core.List.{List, [], ◌∷◌}
use mathlib.Core.Logic.{◌⊎◌, inl, inr}
use Prim.Native.Nat.{ℕ, ◌≤◌}
use borrow.Author.Tests.{eqb-true, eqb-false, eq-eqb, ne_eqb}
use Rattle.lists.specs.Lists.{pick, bit, same}

-- ---- Booleans

pub true-or-false : (b : Bool) → (b ≡ true) ⊎ (b ≡ false)
true-or-false true = inl refl
true-or-false false = inr refl

pub false-true : {A : Type 0} {b : Bool} → b ≡ false → b ≡ true → A
false-true p q = absurd (false≢true (sym p ∙ q))

pub not-true-false : (b : Bool) → (b ≡ true → ⊥) → b ≡ false
not-true-false true h = absurd (h refl)
not-true-false false h = refl

pub not-false-true : (b : Bool) → (b ≡ false → ⊥) → b ≡ true
not-false-true true h = refl
not-false-true false h = absurd (h refl)

pub and_intro : (a b : Bool) → a ≡ true → b ≡ true → (a && b) ≡ true
and_intro a b p q = rw (p, q)

pub and_left : (a b : Bool) → (a && b) ≡ true → a ≡ true
and_left true b h = refl
and_left false b h = absurd (false≢true h)

pub and_right : (a b : Bool) → (a && b) ≡ true → b ≡ true
and_right true b h = h
and_right false b h = absurd (false≢true h)

pub and_both : (a b : Bool) → (a && b) ≡ true → (a ≡ true) × (b ≡ true)
and_both a b h = (and_left a b h, and_right a b h)

-- several tests, one after the other, that all hold
abbrev pub all : Bool → List Bool → Bool
all a [] = a
all a (b ∷ bs) = a && all b bs

abbrev pub Holds : Bool → List Bool → Type 0
Holds a [] = a ≡ true
Holds a (b ∷ bs) = (a ≡ true) × Holds b bs

pub all_hold : (a : Bool) (bs : List Bool) → all a bs ≡ true → Holds a bs
all_hold a [] h = h
all_hold a (b ∷ bs) h = (and_left a (all b bs) h, all_hold b bs (and_right a (all b bs) h))

pub and-false : (a : Bool) → (a && false) ≡ false
and-false true = refl
and-false false = refl

pub and-true : (a : Bool) → (a && true) ≡ a
and-true true = refl
and-true false = refl

pub and_assoc : (a b c : Bool) → ((a && b) && c) ≡ (a && (b && c))
and_assoc true b c = refl
and_assoc false b c = refl

pub or_cases : (a b : Bool) → (a || b) ≡ true → (a ≡ true) ⊎ (b ≡ true)
or_cases true b h = inl refl
or_cases false b h = inr h

pub or_left : (a b : Bool) → a ≡ true → (a || b) ≡ true
or_left a b p = rw p

pub or_right : (a b : Bool) → b ≡ true → (a || b) ≡ true
or_right true b p = refl
or_right false b p = p

pub or-false : (a : Bool) → (a || false) ≡ a
or-false true = refl
or-false false = refl

pub or-true : (a : Bool) → (a || true) ≡ true
or-true true = refl
or-true false = refl

pub or_assoc : (a b c : Bool) → ((a || b) || c) ≡ (a || (b || c))
or_assoc true b c = refl
or_assoc false b c = refl

pub or-none : (a b : Bool) → (a || b) ≡ false → (a ≡ false) × (b ≡ false)
or-none true b h = absurd (true≢false h)
or-none false b h = (refl, h)

-- two tests that hold together are equal
pub both_ways : (a b : Bool) → (a ≡ true → b ≡ true) → (b ≡ true → a ≡ true) → a ≡ b
both_ways true b f g = sym (f refl)
both_ways false true f g = g refl
both_ways false false f g = refl

pub bit-small : (b : Bool) → bit b ≤ 1
bit-small true = omega native.Mathlib.Omega.arith
bit-small false = omega native.Mathlib.Omega.arith

-- ---- pick

pub pick_true {ℓ} : {A : Type ℓ} {b : Bool} (x y : A) → b ≡ true → pick b x y ≡ x
pick_true x y p = rw p

pub pick-false {ℓ} : {A : Type ℓ} {b : Bool} (x y : A) → b ≡ false → pick b x y ≡ y
pick-false x y p = rw p

-- a result that the second case cannot give comes from the first, and the other way round
pub went-first {ℓ} : {A : Type ℓ} {b : Bool} {x y z : A} → pick b x y ≡ z → (y ≡ z → ⊥) → (b ≡ true) × (x ≡ z)
went-first {b = true} h no' = (refl, h)
went-first {b = false} h no' = absurd (no' h)

pub went-second {ℓ} : {A : Type ℓ} {b : Bool} {x y z : A} → pick b x y ≡ z → (x ≡ z → ⊥) → (b ≡ false) × (y ≡ z)
went-second {b = true} h no' = absurd (no' h)
went-second {b = false} h no' = (refl, h)

pub pick_same {ℓ} : {A : Type ℓ} (b : Bool) (x y x' y' : A) → (b ≡ true → x ≡ x') → (b ≡ false → y ≡ y') → pick b x y ≡ pick b x' y'
pick_same true x y x' y' f g = f refl
pick_same false x y x' y' f g = g refl

-- ---- equality of numbers

pub same-yes : (m n : ℕ) → m ≡ n → same m n ≡ true
unfolding same
same-yes m n p = eq-eqb m n p

pub same_self : (n : ℕ) → same n n ≡ true
same_self n = same-yes n n refl

pub same-no : (m n : ℕ) → (m ≡ n → ⊥) → same m n ≡ false
unfolding same
same-no m n h = ne_eqb m n h

pub same_true : (m n : ℕ) → same m n ≡ true → m ≡ n
unfolding same
same_true m n p = eqb-true m n p

pub same_false : (m n : ℕ) → same m n ≡ false → m ≡ n → ⊥
unfolding same
same_false m n p = eqb-false m n p

pub same-sym : (m n : ℕ) → same m n ≡ same n m
same-sym m n = both_ways (same m n) (same n m) (λ p. same-yes n m (sym (same_true m n p))) (λ p. same-yes m n (sym (same_true n m p)))
