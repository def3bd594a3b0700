-- Laws of ranges of numbers, and of tests over them. A loop over a range stands at `from i (e - i)`.
use mathlib.Core.Path.{◌≡◌, refl, sym, ap, ◌∙◌}
use mathlib.Core.Bool.{Bool, true, false, ◌&&◌, ◌||◌}
use mathlib.Core.List.{List, [], ◌∷◌, ◌++◌, map, append_assoc}
use mathlib.Core.Logic.{◌⊎◌, inl, inr}
use Prim.Native.Nat.{ℕ, zero, suc, ◌+◌, ◌-◌, ◌≤◌, ◌<◌}
use native.Mathlib.Decide.{ℕ_discrete}
use native.Mathlib.Nat.{add-zero}
use native.Mathlib.Omega.{arith}
use lib.ListN.{length, get_or}
use Rattle.lists.specs.Lists.{same, from, range, every, flat, member}
use Rattle.lists.proofs.Tests.{and_intro, and_left, and_right, both_ways, or_cases, or_left, or_right, same_self, same-yes, same_true, false-true}

pub from_more : (i e : ℕ) → i < e → from i (e - i) ≡ i ∷ from (i + 1) (e - (i + 1))
unfolding from
from_more i e h = let q : e - i ≡ suc (e - (i + 1)) = omega arith in rw q

pub from-done : (i e : ℕ) → e ≤ i → from i (e - i) ≡ []
unfolding from
from-done i e h = let q : e - i ≡ 0 = omega arith in rw q

pub from-whole : (e : ℕ) → range e ≡ from 0 (e - 0)
from-whole e = let q : e - 0 ≡ e = omega arith in rw q

pub from-length : (a n : ℕ) → length (from a n) ≡ n
unfolding from
from-length a zero = refl
from-length a (suc n) = rw (from-length (a + 1) n)

pub from-get_or : (a n i : ℕ) → i < n → get_or (from a n) i 0 ≡ a + i
unfolding from
from-get_or a zero i h = absurd (omega arith)
from-get_or a (suc n) zero h = sym (add-zero a)
from-get_or a (suc n) (suc i) h = let l : i < n = omega arith in from-get_or (a + 1) n i l ∙ (let q : a + 1 + i ≡ a + suc i = omega arith in q)

-- one more at the end
pub from-snoc : (a n : ℕ) → from a (suc n) ≡ from a n ++ ((a + n) ∷ [])
unfolding from
from-snoc a zero = rw (add-zero a)
from-snoc a (suc n) = rw (from-snoc (a + 1) n) (let q : a + 1 + n ≡ a + suc n = omega arith in rw q)

pub from-append : (a n m : ℕ) → from a (n + m) ≡ from a n ++ from (a + n) m
unfolding from
from-append a zero m = let q : 0 + m ≡ m = omega arith in let r : a + 0 ≡ a = omega arith in rw (q, r)
from-append a (suc n) m =
    let q : suc n + m ≡ suc (n + m) = omega arith in
    let r : a + suc n ≡ a + 1 + n = omega arith in
    rw (q, from-append (a + 1) n m, r)

pub member-from : (x a n : ℕ) → a ≤ x → x < a + n → member x (from a n) ≡ true
unfolding from member
member-from x a zero h l = absurd (omega arith)
member-from x a (suc n) h l = go (ℕ_discrete x a) (λ g. member-from x (a + 1) n g (omega arith))
  where
    go : Dec (x ≡ a) → (a + 1 ≤ x → member x (from (a + 1) n) ≡ true) → (same x a || member x (from (a + 1) n)) ≡ true
    go (yes p) f = or_left (same x a) (member x (from (a + 1) n)) (same-yes x a p)
    go (no d) f = or_right (same x a) (member x (from (a + 1) n)) (f (omega arith))

pub from_member : (x a n : ℕ) → member x (from a n) ≡ true → (a ≤ x) × (x < a + n)
unfolding from member
from_member x a zero h = false-true refl h
from_member x a (suc n) h = go (or_cases (same x a) (member x (from (a + 1) n)) h) (from_member x (a + 1) n)
  where
    go : (same x a ≡ true) ⊎ (member x (from (a + 1) n) ≡ true) → (member x (from (a + 1) n) ≡ true → (a + 1 ≤ x) × (x < a + 1 + n)) → (a ≤ x) × (x < a + suc n)
    go (inl p) f = let q : x ≡ a = same_true x a p in (omega arith, omega arith)
    go (inr m) f = let q = f m in (omega (arith, q.0), omega (arith, q.1))

-- ---- a test over a range

module _ (p : ℕ → Bool) where
  pub every-start : (e : ℕ) → every p (range e) ≡ every p (from 0 (e - 0))
  every-start e = ap (every p) (from-whole e)

  pub every_more : (i e : ℕ) → i < e → p i ≡ true → every p (from i (e - i)) ≡ every p (from (i + 1) (e - (i + 1)))
  unfolding every
  every_more i e h q = rw (from_more i e h, q)

  pub every-stop : (i e : ℕ) → i < e → p i ≡ false → every p (from i (e - i)) ≡ false
  unfolding every
  every-stop i e h q = rw (from_more i e h, q)

  pub every-done : (i e : ℕ) → e ≤ i → every p (from i (e - i)) ≡ true
  unfolding every
  every-done i e h = rw (from-done i e h)

  pub every-at : (a n : ℕ) → every p (from a n) ≡ true → (i : ℕ) → a ≤ i → i < a + n → p i ≡ true
  unfolding every from
  every-at a zero h i l u = absurd (omega arith)
  every-at a (suc n) h i l u = go (ℕ_discrete i a) (λ g. every-at (a + 1) n (and_right (p a) (every p (from (a + 1) n)) h) i g (omega arith))
    where
      go : Dec (i ≡ a) → (a + 1 ≤ i → p i ≡ true) → p i ≡ true
      go (yes q) f = rw q (and_left (p a) (every p (from (a + 1) n)) h)
      go (no d) f = f (omega arith)

  pub every-all : (a n : ℕ) → ((i : ℕ) → a ≤ i → i < a + n → p i ≡ true) → every p (from a n) ≡ true
  unfolding every from
  every-all a zero f = refl
  every-all a (suc n) f = and_intro (p a) (every p (from (a + 1) n)) (f a (omega arith) (omega arith)) (every-all (a + 1) n (λ i l u. f i (omega arith) (omega arith)))

  -- the same at the numbers below n
  pub every-below : (n : ℕ) → every p (range n) ≡ true → (i : ℕ) → i < n → p i ≡ true
  every-below n h i l = every-at 0 n h i (omega arith) (omega arith)

  pub below-every : (n : ℕ) → ((i : ℕ) → i < n → p i ≡ true) → every p (range n) ≡ true
  below-every n f = every-all 0 n (λ i l u. f i (omega arith))

  pub every-member : (xs : List ℕ) → every p xs ≡ true → (x : ℕ) → member x xs ≡ true → p x ≡ true
  unfolding every member
  every-member [] h x m = false-true refl m
  every-member (y ∷ ys) h x m = go (or_cases (same x y) (member x ys) m) (every-member ys (and_right (p y) (every p ys) h) x)
    where
      go : (same x y ≡ true) ⊎ (member x ys ≡ true) → (member x ys ≡ true → p x ≡ true) → p x ≡ true
      go (inl q) f = rw (same_true x y q) (and_left (p y) (every p ys) h)
      go (inr q) f = f q

  pub member-every : (xs : List ℕ) → ((x : ℕ) → member x xs ≡ true → p x ≡ true) → every p xs ≡ true
  unfolding every member
  member-every [] f = refl
  member-every (y ∷ ys) f =
      and_intro (p y) (every p ys) (f y (or_left (same y y) (member y ys) (same_self y))) (member-every ys (λ x m. f x (or_right (same x y) (member x ys) m)))

  pub every_append : (xs ys : List ℕ) → every p (xs ++ ys) ≡ (every p xs && every p ys)
  unfolding every
  every_append [] ys = refl
  every_append (x ∷ xs) ys = rw (every_append xs ys) (sym (Rattle.lists.proofs.Tests.and_assoc (p x) (every p xs) (every p ys)))

pub every_map : (p : ℕ → Bool) (f : ℕ → ℕ) (xs : List ℕ) → every p (map f xs) ≡ every (λ x. p (f x)) xs
unfolding every
every_map p f [] = refl
every_map p f (x ∷ xs) = rw (every_map p f xs)

module _ (p q : ℕ → Bool) where
  pub every-same : (xs : List ℕ) → ((x : ℕ) → member x xs ≡ true → p x ≡ q x) → every p xs ≡ every q xs
  unfolding every member
  every-same [] f = refl
  every-same (y ∷ ys) f = rw (f y (or_left (same y y) (member y ys) (same_self y)), every-same ys (λ x m. f x (or_right (same x y) (member x ys) m)))

-- ---- lists put one after the other

module _ {A : Type 0} (f : ℕ → List A) where
  pub flat_append : (xs ys : List ℕ) → flat f (xs ++ ys) ≡ flat f xs ++ flat f ys
  unfolding flat
  flat_append [] ys = refl
  flat_append (x ∷ xs) ys = rw (flat_append xs ys) (sym (append_assoc (f x) (flat f xs) (flat f ys)))

  pub flat_start : (e : ℕ) → flat f (range e) ≡ flat f (from 0 (e - 0))
  flat_start e = ap (flat f) (from-whole e)

  pub flat-more : (i e : ℕ) → i < e → flat f (from i (e - i)) ≡ f i ++ flat f (from (i + 1) (e - (i + 1)))
  unfolding flat
  flat-more i e h = rw (from_more i e h)

  pub flat-done : (i e : ℕ) → e ≤ i → flat f (from i (e - i)) ≡ []
  unfolding flat
  flat-done i e h = rw (from-done i e h)

-- what stands before the list of x, that list, and what stands behind it
pub flat-split : {A : Type 0} (f : ℕ → List A) (a n x : ℕ) → a ≤ x → x < a + n
    → flat f (from a n) ≡ flat f (from a (x - a)) ++ (f x ++ flat f (from (x + 1) (a + n - (x + 1))))
unfolding flat from
flat-split f a n x l u =
    let e : n ≡ (x - a) + suc (a + n - (x + 1)) = omega arith in
    let g : a + (x - a) ≡ x = omega arith in
    ap (λ (k : ℕ). flat f (from a k)) e
    ∙ ap (flat f) (from-append a (x - a) (suc (a + n - (x + 1))))
    ∙ flat_append f (from a (x - a)) (from (a + (x - a)) (suc (a + n - (x + 1))))
    ∙ ap (λ (k : ℕ). flat f (from a (x - a)) ++ flat f (from k (suc (a + n - (x + 1))))) g
