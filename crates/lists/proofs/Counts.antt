-- How often a number stands in a list, and how long a list is in which no number stands twice (the pigeonhole).
use mathlib.Core.Path.{◌≡◌, refl, sym, ◌∙◌}
use mathlib.Core.Bool.{Bool, true, false}
use mathlib.Core.List.{List, [], ◌∷◌, ◌++◌}
use mathlib.Core.Logic.{◌⊎◌, inl, inr}
use Prim.Native.Nat.{ℕ, zero, suc, ◌+◌, ◌≤◌, ◌<◌}
use native.Mathlib.Decide.{ℕ_discrete}
use native.Mathlib.Omega.{arith}
use lib.ListN.{length}
use Rattle.lists.specs.Lists.{pick, bit, same, keep, flat, member, times, Distinct, none, more}
use Rattle.lists.proofs.Tests.{false-true, not-true-false, bit-small, same_self, same-no, same-yes}
use Rattle.lists.proofs.Members.{member-here, member-there, member-cases, member-nil, distinct_head, distinct_tail}

-- ---- counting

pub times-cons : (x y : ℕ) (xs : List ℕ) → times x (y ∷ xs) ≡ bit (same x y) + times x xs
unfolding times
times-cons x y xs = refl

pub times-self : (x : ℕ) (xs : List ℕ) → times x (x ∷ xs) ≡ suc (times x xs)
times-self x xs = times-cons x x xs ∙ rw (same_self x) (omega arith)

pub times-other : (x y : ℕ) (xs : List ℕ) → (x ≡ y → ⊥) → times x (y ∷ xs) ≡ times x xs
times-other x y xs d = times-cons x y xs ∙ rw (same-no x y d) (omega arith)

pub times-append : (x : ℕ) (xs ys : List ℕ) → times x (xs ++ ys) ≡ times x xs + times x ys
unfolding times
times-append x [] ys = omega arith
times-append x (y ∷ xs) ys = rw (times-append x xs ys) (omega arith)

pub times-one : (x y : ℕ) → times x (y ∷ []) ≡ bit (same x y)
unfolding times
times-one x y = omega arith

-- ---- counting and standing

pub member-times : (x : ℕ) (xs : List ℕ) → member x xs ≡ true → 1 ≤ times x xs
member-times x [] m = member-nil x m
member-times x (y ∷ xs) m = go (member-cases x y xs m) (member-times x xs)
  where
    go : (x ≡ y) ⊎ (member x xs ≡ true) → (member x xs ≡ true → 1 ≤ times x xs) → 1 ≤ times x (y ∷ xs)
    go (inl p) f = rw (times-cons x y xs, same-yes x y p) (omega arith)
    go (inr q) f = rw (times-cons x y xs) (omega (arith, f q))

pub times-member : (x : ℕ) (xs : List ℕ) → 1 ≤ times x xs → member x xs ≡ true
unfolding times
times-member x [] h = absurd (omega arith)
times-member x (y ∷ xs) h = go (ℕ_discrete x y) (times-member x xs)
  where
    go : Dec (x ≡ y) → (1 ≤ times x xs → member x xs ≡ true) → member x (y ∷ xs) ≡ true
    go (yes p) f = rw p (member-here y xs)
    go (no d) f = member-there x y xs (f (omega (arith, times-other x y xs d)))

pub times_none : (x : ℕ) (xs : List ℕ) → member x xs ≡ false → times x xs ≡ 0
times_none x xs m = go (ℕ_discrete (times x xs) 0)
  where
    go : Dec (times x xs ≡ 0) → times x xs ≡ 0
    go (yes p) = p
    go (no d) = false-true m (times-member x xs (omega arith))

pub none-times : (x : ℕ) (xs : List ℕ) → times x xs ≡ 0 → member x xs ≡ false
none-times x xs h = not-true-false (member x xs) (λ m. omega (arith, member-times x xs m))

-- ---- no number twice

pub distinct-times : (xs : List ℕ) → Distinct xs → (x : ℕ) → times x xs ≤ 1
unfolding times
distinct-times [] d x = omega arith
distinct-times (y ∷ xs) d x = go (ℕ_discrete x y) (distinct-times xs (distinct_tail d) x)
  where
    go : Dec (x ≡ y) → times x xs ≤ 1 → times x (y ∷ xs) ≤ 1
    go (yes p) h = omega (arith, bit-small (same x y), times_none x xs (rw p (distinct_head d)))
    go (no n) h = omega (arith, times-other x y xs n)

pub times-distinct : (xs : List ℕ) → ((x : ℕ) → times x xs ≤ 1) → Distinct xs
times-distinct [] f = none
times-distinct (y ∷ xs) f =
    more (none-times y xs (omega (arith, f y, times-self y xs))) (times-distinct xs (λ x. omega (arith, f x, times-cons x y xs)))

-- ---- where a number of lists put one after the other comes from

module _ (f : ℕ → List ℕ) (z : ℕ) where
  pub times-flat : (x : ℕ) (xs : List ℕ) → member x xs ≡ true → times z (f x) ≤ times z (flat f xs)
  unfolding flat
  times-flat x [] m = member-nil x m
  times-flat x (y ∷ xs) m = go (member-cases x y xs m) (times-flat x xs)
    where
      go : (x ≡ y) ⊎ (member x xs ≡ true) → (member x xs ≡ true → times z (f x) ≤ times z (flat f xs)) → times z (f x) ≤ times z (f y ++ flat f xs)
      go (inl p) ih = rw (p, times-append z (f y) (flat f xs)) (omega arith)
      go (inr q) ih = rw (times-append z (f y) (flat f xs)) (omega (arith, ih q))

  -- a number that stands there once comes from one place alone
  pub flat-unique : (x y : ℕ) (xs : List ℕ) → times z (flat f xs) ≤ 1 → member x xs ≡ true → member y xs ≡ true
      → member z (f x) ≡ true → member z (f y) ≡ true → x ≡ y
  unfolding flat
  flat-unique x y [] h m n p q = member-nil x m
  flat-unique x y (u ∷ xs) h m n p q =
      go (member-cases x u xs m) (member-cases y u xs n) (λ a b. flat-unique x y xs (omega (arith, sum)) a b p q)
    where
      sum : times z (f u ++ flat f xs) ≡ times z (f u) + times z (flat f xs)
      sum = times-append z (f u) (flat f xs)

      both : (a b : ℕ) → a ≡ u → member b xs ≡ true → member z (f a) ≡ true → member z (f b) ≡ true → ⊥
      both a b e k r s = omega (arith, sum, h, member-times z (f u) (rw e at r), member-times z (f b) s, times-flat b xs k)

      go : (x ≡ u) ⊎ (member x xs ≡ true) → (y ≡ u) ⊎ (member y xs ≡ true) → (member x xs ≡ true → member y xs ≡ true → x ≡ y) → x ≡ y
      go (inl a) (inl b) ih = a ∙ sym b
      go (inl a) (inr b) ih = absurd (both x y a b p q)
      go (inr a) (inl b) ih = absurd (both y x b a q p)
      go (inr a) (inr b) ih = ih a b

-- ---- the pigeonhole: a list's length is the sum of its counts

sum : (ℕ → ℕ) → ℕ → ℕ → ℕ
sum f a zero = 0
sum f a (suc n) = f a + sum f (a + 1) n

sum-zero : (a n : ℕ) → sum (λ x. times x []) a n ≡ 0
unfolding sum times
sum-zero a zero = refl
sum-zero a (suc n) = rw (sum-zero (a + 1) n)

sum-add : (f g : ℕ → ℕ) (a n : ℕ) → sum (λ x. f x + g x) a n ≡ sum f a n + sum g a n
unfolding sum
sum-add f g a zero = omega arith
sum-add f g a (suc n) = rw (sum-add f g (a + 1) n) (omega arith)

sum-none : (y a n : ℕ) → y < a → sum (λ x. bit (same x y)) a n ≡ 0
unfolding sum
sum-none y a zero h = refl
sum-none y a (suc n) h = rw (same-no a y (λ p. omega arith), sum-none y (a + 1) n (omega arith))

sum-bit : (y a n : ℕ) → a ≤ y → y < a + n → sum (λ x. bit (same x y)) a n ≡ 1
unfolding sum
sum-bit y a zero h l = absurd (omega arith)
sum-bit y a (suc n) h l = go (ℕ_discrete a y) (λ g. sum-bit y (a + 1) n g (omega arith))
  where
    go : Dec (a ≡ y) → (a + 1 ≤ y → sum (λ x. bit (same x y)) (a + 1) n ≡ 1) → bit (same a y) + sum (λ x. bit (same x y)) (a + 1) n ≡ 1
    go (yes p) ih = rw (same-yes a y p, sum-none y (a + 1) n (omega arith))
    go (no d) ih = rw (same-no a y d) (omega (arith, ih (omega arith)))

sum-length : (xs : List ℕ) (a n : ℕ) → ((x : ℕ) → member x xs ≡ true → (a ≤ x) × (x < a + n)) → sum (λ x. times x xs) a n ≡ length xs
unfolding times
sum-length [] a n f = sum-zero a n
sum-length (y ∷ xs) a n f =
    let r = f y (member-here y xs) in
    sum-add (λ x. bit (same x y)) (λ x. times x xs) a n ∙
    rw (sum-bit y a n r.0 r.1, sum-length xs a n (λ x m. f x (member-there x y xs m))) (omega arith)

sum-small : (f : ℕ → ℕ) (a n : ℕ) → ((x : ℕ) → a ≤ x → x < a + n → f x ≤ 1) → sum f a n ≤ n
unfolding sum
sum-small f a zero h = omega arith
sum-small f a (suc n) h = omega (arith, h a (omega arith) (omega arith), sum-small f (a + 1) n (λ x l u. h x (omega arith) (omega arith)))

sum_ones : (f : ℕ → ℕ) (a n : ℕ) → ((x : ℕ) → a ≤ x → x < a + n → f x ≡ 1) → sum f a n ≡ n
unfolding sum
sum_ones f a zero h = refl
sum_ones f a (suc n) h = omega (arith, h a (omega arith) (omega arith), sum_ones f (a + 1) n (λ x l u. h x (omega arith) (omega arith)))

module _ (xs : List ℕ) (a n : ℕ) (inside : (x : ℕ) → member x xs ≡ true → (a ≤ x) × (x < a + n)) where
  -- numbers of [a, a + n), none of them twice, are at most n
  pub pigeonhole : ((x : ℕ) → a ≤ x → x < a + n → times x xs ≤ 1) → length xs ≤ n
  pigeonhole h = omega (arith, sum-length xs a n inside, sum-small (λ x. times x xs) a n h)

  pub distinct-length : Distinct xs → length xs ≤ n
  distinct-length d = pigeonhole (λ x l u. distinct-times xs d x)

  -- each of [a, a + n) exactly once, and nothing else
  pub each-once : ((x : ℕ) → a ≤ x → x < a + n → times x xs ≡ 1) → length xs ≡ n
  each-once h = sym (sum-length xs a n inside) ∙ sum_ones (λ x. times x xs) a n h

pub distinct-below : (xs : List ℕ) (n : ℕ) → ((x : ℕ) → member x xs ≡ true → x < n) → Distinct xs → length xs ≤ n
distinct-below xs n f d = distinct-length xs 0 n (λ x m. omega (arith, f x m)) d

-- ---- one number from each element that passes

module _ (p : ℕ → Bool) (f : ℕ → ℕ) where
  pub flat-keep-length : (xs : List ℕ) → length (flat (λ x. pick (p x) (f x ∷ []) []) xs) ≡ length (keep p xs)
  unfolding flat keep
  flat-keep-length [] = refl
  flat-keep-length (x ∷ xs) = go (p x) refl (flat-keep-length xs)
    where
      go : (b : Bool) → p x ≡ b → length (flat (λ x. pick (p x) (f x ∷ []) []) xs) ≡ length (keep p xs)
          → length (pick (p x) (f x ∷ []) [] ++ flat (λ x. pick (p x) (f x ∷ []) []) xs) ≡ length (pick (p x) (x ∷ keep p xs) (keep p xs))
      go true h ih = rw (h, ih)
      go false h ih = rw (h, ih)

pub flat-one-length : (f : ℕ → ℕ) (xs : List ℕ) → length (flat (λ x. f x ∷ []) xs) ≡ length xs
unfolding flat
flat-one-length f [] = refl
flat-one-length f (x ∷ xs) = rw (flat-one-length f xs)
