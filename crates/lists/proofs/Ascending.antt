-- Laws of lists that ascend strictly.
use mathlib.Core.Path.{◌≡◌, refl, subst, ◌∙◌}
use mathlib.Core.Bool.{true, false, ◌&&◌}
use mathlib.Core.List.{List, [], ◌∷◌, ◌++◌}
use Prim.Native.Nat.{ℕ, zero, suc, ◌+◌, ◌-◌, ◌≤◌, ◌<◌}
use native.Mathlib.Omega.{arith}
use lib.Dec.{ltb, leb}
use lib.ListN.{length, get_or}
use lib.Seq.{slice, length-slice}
use borrow.Author.Tests.{lt-ltb, le-ltb, le-leb, lt-leb, ltb-true, leb-true}
use Rattle.lists.specs.Lists.{member, ascends}
use Rattle.lists.proofs.Tests.{and_left, and_right, same-no}
use Rattle.lists.proofs.Slices.{slice-step, slice-none, get_or-slice}

-- ---- the first element and the rest

module _ (n lo x : ℕ) (xs : List ℕ) (h : ascends n lo (x ∷ xs) ≡ true) where
  pub ascends-first : lo ≤ x
  unfolding ascends
  ascends-first = leb-true lo x (and_left (leb lo x) (ltb x n && ascends n (x + 1) xs) h)

  pub ascends-below : x < n
  unfolding ascends
  ascends-below = ltb-true x n (and_left (ltb x n) (ascends n (x + 1) xs) (and_right (leb lo x) (ltb x n && ascends n (x + 1) xs) h))

  pub ascends-rest : ascends n (x + 1) xs ≡ true
  unfolding ascends
  ascends-rest = and_right (ltb x n) (ascends n (x + 1) xs) (and_right (leb lo x) (ltb x n && ascends n (x + 1) xs) h)

pub ascends-cons : (n lo x : ℕ) (xs : List ℕ) → lo ≤ x → x < n → ascends n lo (x ∷ xs) ≡ ascends n (x + 1) xs
unfolding ascends
ascends-cons n lo x xs a b = rw (le-leb lo x, lt-ltb x n)

-- a list that ascends from a number on ascends from any lower one on
pub ascends-lower : (n lo low : ℕ) (xs : List ℕ) → low ≤ lo → ascends n lo xs ≡ true → ascends n low xs ≡ true
unfolding ascends
ascends-lower n lo low [] h e = refl
ascends-lower n lo low (x ∷ xs) h e =
    let a = ascends-first n lo x xs e in
    let l : low ≤ x = omega arith in
    ascends-cons n low x xs l (ascends-below n lo x xs e) ∙ ascends-rest n lo x xs e

-- below a number, so below any higher one
pub ascends-higher : (n m lo : ℕ) (xs : List ℕ) → n ≤ m → ascends n lo xs ≡ true → ascends m lo xs ≡ true
unfolding ascends
ascends-higher n m lo [] h a = refl
ascends-higher n m lo (x ∷ xs) h a =
    let b = ascends-below n lo x xs a in
    ascends-cons m lo x xs (ascends-first n lo x xs a) (omega arith) ∙ ascends-higher n m (x + 1) xs h (ascends-rest n lo x xs a)

-- two ascending lists, the second behind the first
pub ascends-append : (n lo mid : ℕ) (xs ys : List ℕ) → lo ≤ mid → mid ≤ n → ascends mid lo xs ≡ true → ascends n mid ys ≡ true → ascends n lo (xs ++ ys) ≡ true
ascends-append n lo mid [] ys l u a b = ascends-lower n mid lo ys l b
ascends-append n lo mid (x ∷ xs) ys l u a b =
    let c = ascends-below mid lo x xs a in
    ascends-cons n lo x (xs ++ ys) (ascends-first mid lo x xs a) (omega arith)
    ∙ ascends-append n (x + 1) mid xs ys (omega arith) u (ascends-rest mid lo x xs a) b

-- a number below where the list begins does not stand in it
pub not-below : (n lo x : ℕ) (xs : List ℕ) → ascends n lo xs ≡ true → x < lo → member x xs ≡ false
unfolding member
not-below n lo x [] e h = refl
not-below n lo x (y ∷ ys) e h =
    let a = ascends-first n lo y ys e in
    rw (same-no x y (λ p. omega arith), not-below n (y + 1) x ys (ascends-rest n lo y ys e) (omega arith))

-- every element lies below the limit
pub element-below : (n lo : ℕ) (xs : List ℕ) → ascends n lo xs ≡ true → (k : ℕ) → k < length xs → get_or xs k 0 < n
element-below n lo [] e k h = absurd (omega arith)
element-below n lo (x ∷ xs) e zero h = ascends-below n lo x xs e
element-below n lo (x ∷ xs) e (suc k) h = element-below n (x + 1) xs (ascends-rest n lo x xs e) k (omega arith)

-- ---- a part of a list of words, from i to e

pub slice-below : (n lo : ℕ) (w : List ℕ) (i e : ℕ) → e ≤ length w → ascends n lo (slice i e w) ≡ true → (k : ℕ) → i ≤ k → k < e → get_or w k 0 < n
slice-below n lo w i e h q k a b =
    subst (λ (x : ℕ). x < n) (get_or-slice w i e k a b) (element-below n lo (slice i e w) q (k - i) (omega (arith, length-slice i e w h)))

module _ (w : List ℕ) (i e : ℕ) (h : i < e) (k : e ≤ length w) where
  pub rising-low : (n lo : ℕ) → get_or w i 0 < lo → ascends n lo (slice i e w) ≡ false
  unfolding ascends
  rising-low n lo p = rw (slice-step w i e, lt-leb lo (get_or w i 0))

  pub rising-high : (n lo : ℕ) → lo ≤ get_or w i 0 → n ≤ get_or w i 0 → ascends n lo (slice i e w) ≡ false
  unfolding ascends
  rising-high n lo p q = rw (slice-step w i e, le-leb lo (get_or w i 0), le-ltb (get_or w i 0) n)

  pub rising-more : (n lo : ℕ) → lo ≤ get_or w i 0 → get_or w i 0 < n → ascends n lo (slice i e w) ≡ ascends n (get_or w i 0 + 1) (slice (i + 1) e w)
  rising-more n lo p q = rw (slice-step w i e) (ascends-cons n lo (get_or w i 0) (slice (i + 1) e w) p q)

  -- the rest of a part that ascends
  pub rising-rest : (n lo : ℕ) → ascends n lo (slice i e w) ≡ true → ascends n 0 (slice (i + 1) e w) ≡ true
  rising-rest n lo p =
      let q : ascends n lo (get_or w i 0 ∷ slice (i + 1) e w) ≡ true = rw (slice-step w i e h k) at p in
      ascends-lower n (get_or w i 0 + 1) 0 (slice (i + 1) e w) (omega arith) (ascends-rest n lo (get_or w i 0) (slice (i + 1) e w) q)

  -- it ascends from its first element on
  pub rising-first : (n lo : ℕ) → ascends n lo (slice i e w) ≡ true → ascends n (get_or w i 0) (slice i e w) ≡ true
  rising-first n lo p =
      let q : ascends n lo (get_or w i 0 ∷ slice (i + 1) e w) ≡ true = rw (slice-step w i e h k) at p in
      rw (slice-step w i e h k) (ascends-cons n (get_or w i 0) (get_or w i 0) (slice (i + 1) e w) (omega arith)
      (ascends-below n lo (get_or w i 0) (slice (i + 1) e w) q) ∙ ascends-rest n lo (get_or w i 0) (slice (i + 1) e w) q)

pub rising_none : (w : List ℕ) (i e n lo : ℕ) → e ≤ i → ascends n lo (slice i e w) ≡ true
unfolding ascends
rising_none w i e n lo h = rw (slice-none w i e h)
