-- Laws of positions: they ascend, what stands among them, and the ascending list with just these members. How long a list of distinct numbers is.
use mathlib.Core.Path.{◌≡◌, refl, sym, ap, ◌∙◌}
use mathlib.Core.Bool.{Bool, true, false, not, ◌&&◌}
use mathlib.Core.List.{List, [], ◌∷◌, ◌++◌, map}
use mathlib.Core.Logic.{◌⊎◌, inl, inr}
use Prim.Native.Nat.{ℕ, zero, suc, ◌+◌, ◌-◌, ◌≤◌, ◌<◌}
use native.Mathlib.Decide.{ℕ_discrete, dec_lt}
use native.Mathlib.Omega.{arith}
use lib.ListN.{length, get_or}
use Rattle.lists.specs.Lists.{pick, same, from, keep, flat, member, Distinct, none, more, positions_from, positions, ascends}
use Rattle.lists.proofs.Tests.{false-true, not-true-false, and_intro, and_left, and_right, both_ways, same_self, same-no}
use Rattle.lists.proofs.Ranges.{member-from, from_member}
use Rattle.lists.proofs.Members.{member-here, member-there, member-cases, member-nil, keep-length, member-keep, distinct_head, distinct_tail}
use Rattle.lists.proofs.Ascending.{ascends-first, ascends-below, ascends-rest, ascends-cons, ascends-lower, not-below}

-- ---- ascending lists

-- a list that ascends has no number twice
pub ascends-distinct : (n lo : ℕ) (xs : List ℕ) → ascends n lo xs ≡ true → Distinct xs
ascends-distinct n lo [] h = none
ascends-distinct n lo (x ∷ xs) h =
    let r = ascends-rest n lo x xs h in
    more (not-below n (x + 1) x xs r (omega arith)) (ascends-distinct n (x + 1) xs r)

-- what stands in it lies below the limit
pub ascends-member : (n lo x : ℕ) (xs : List ℕ) → ascends n lo xs ≡ true → member x xs ≡ true → x < n
ascends-member n lo x [] h m = member-nil x m
ascends-member n lo x (y ∷ ys) h m = go (member-cases x y ys m) (ascends-member n (y + 1) x ys (ascends-rest n lo y ys h))
  where
    go : (x ≡ y) ⊎ (member x ys ≡ true) → (member x ys ≡ true → x < n) → x < n
    go (inl p) f = omega (arith, ascends-below n lo y ys h)
    go (inr q) f = f q

-- the first of two lists with one set of members is not below the first of the other
first-low : (n lo x y : ℕ) (xs ys : List ℕ) → ascends n lo (y ∷ ys) ≡ true → ((z : ℕ) → member z (x ∷ xs) ≡ member z (y ∷ ys)) → y ≤ x
first-low n lo x y xs ys b f = go (member-cases x y ys (sym (f x) ∙ member-here x xs))
  where
    go : (x ≡ y) ⊎ (member x ys ≡ true) → y ≤ x
    go (inl p) = omega arith
    go (inr q) = low (dec_lt x (y + 1))
      where
        low : Dec (x < y + 1) → y ≤ x
        low (yes l) = false-true (not-below n (y + 1) x ys (ascends-rest n lo y ys b) l) q
        low (no l) = omega arith

-- two ascending lists with one set of members are one
pub ascends_same : (n lo : ℕ) (xs ys : List ℕ) → ascends n lo xs ≡ true → ascends n lo ys ≡ true → ((z : ℕ) → member z xs ≡ member z ys) → xs ≡ ys
unfolding member
ascends_same n lo [] [] a b f = refl
ascends_same n lo [] (y ∷ ys) a b f = member-nil y (f y ∙ member-here y ys)
ascends_same n lo (x ∷ xs) [] a b f = member-nil x (sym (f x) ∙ member-here x xs)
ascends_same n lo (x ∷ xs) (y ∷ ys) a b f =
    go (omega (arith, first-low n lo x y xs ys b f, first-low n lo y x ys xs a (λ z. sym (f z)))) (ascends_same n (x + 1) xs ys)
  where
    go : x ≡ y → (ascends n (x + 1) xs ≡ true → ascends n (x + 1) ys ≡ true → ((z : ℕ) → member z xs ≡ member z ys) → xs ≡ ys) → (x ∷ xs) ≡ (y ∷ ys)
    go e ih =
        let ra = ascends-rest n lo x xs a in
        let rb : ascends n (x + 1) ys ≡ true = rw e (ascends-rest n lo y ys b) in
        rw (e, ih ra rb (λ z. tail z (ℕ_discrete z x) ra rb))
      where
        tail : (z : ℕ) → Dec (z ≡ x) → ascends n (x + 1) xs ≡ true → ascends n (x + 1) ys ≡ true → member z xs ≡ member z ys
        tail z (yes p) ra rb = not-below n (x + 1) z xs ra (omega arith) ∙ sym (not-below n (x + 1) z ys rb (omega arith))
        tail z (no d) ra rb = other (f z)
          where
            other : member z (x ∷ xs) ≡ member z (y ∷ ys) → member z xs ≡ member z ys
            other h = rw (same-no z x d, same-no z y (λ p. d (p ∙ sym e))) at h

-- ---- how long a list of distinct numbers is

-- without a number that stands in it a list is shorter
without-shorter : (x : ℕ) (ys : List ℕ) → member x ys ≡ true → suc (length (keep (λ z. not (same x z)) ys)) ≤ length ys
unfolding keep
without-shorter x [] m = member-nil x m
without-shorter x (y ∷ ys) m = go (ℕ_discrete x y) (member-cases x y ys m) (without-shorter x ys)
  where
    go : Dec (x ≡ y) → (x ≡ y) ⊎ (member x ys ≡ true) → (member x ys ≡ true → suc (length (keep (λ z. not (same x z)) ys)) ≤ length ys)
        → suc (length (keep (λ z. not (same x z)) (y ∷ ys))) ≤ length (y ∷ ys)
    go (yes p) q f = rw (p, same_self y) (omega (arith, keep-length (λ z. not (same x z)) ys))
    go (no d) (inl p) f = absurd (d p)
    go (no d) (inr q) f = rw (same-no x y d) (omega (arith, f q))

-- distinct numbers that all stand in another list are not more than that list has
pub distinct-within : (xs ys : List ℕ) → Distinct xs → ((x : ℕ) → member x xs ≡ true → member x ys ≡ true) → length xs ≤ length ys
distinct-within [] ys d f = omega arith
distinct-within (x ∷ xs) ys d f =
    let s = without-shorter x ys (f x (member-here x xs)) in
    omega (arith, distinct-within xs (keep (λ z. not (same x z)) ys) (distinct_tail d) stays)
  where
    stays : (z : ℕ) → member z xs ≡ true → member z (keep (λ z. not (same x z)) ys) ≡ true
    stays z m =
        member-keep (λ z. not (same x z)) z ys ∙ rw (same-no x z (λ p. false-true (distinct_head d) (rw (← p) at m)), f z (member-there z x xs m))

-- ---- positions

module _ {A : Type 0} (p : A → Bool) where
  pub positions-ascend : (i : ℕ) (xs : List A) → ascends (i + length xs) i (positions_from p i xs) ≡ true
  unfolding positions_from ascends
  positions-ascend i [] = refl
  positions-ascend i (x ∷ xs) =
      let e : i + 1 + length xs ≡ i + suc (length xs) = omega arith in
      go (p x) refl (rw e at (positions-ascend (i + 1) xs))
    where
      go : (b : Bool) → p x ≡ b → ascends (i + suc (length xs)) (i + 1) (positions_from p (i + 1) xs) ≡ true
          → ascends (i + suc (length xs)) i (pick (p x) (i ∷ positions_from p (i + 1) xs) (positions_from p (i + 1) xs)) ≡ true
      go true h r = rw h (ascends-cons (i + suc (length xs)) i i (positions_from p (i + 1) xs) (omega arith) (omega arith) ∙ r)
      go false h r = rw h (ascends-lower (i + suc (length xs)) (i + 1) i (positions_from p (i + 1) xs) (omega arith) r)

  -- position k stands among them where the test holds of element k
  pub positions-at : (d : A) (i k : ℕ) (xs : List A) → k < length xs → member (i + k) (positions_from p i xs) ≡ p (get_or xs k d)
  unfolding positions_from member
  positions-at d i k [] h = absurd (omega arith)
  positions-at d i zero (x ∷ xs) h =
      let e : i + 0 ≡ i = omega arith in
      rw e (go (p x) refl (not-below (i + 1 + length xs) (i + 1) i (positions_from p (i + 1) xs) (positions-ascend (i + 1) xs) (omega arith)))
    where
      go : (b : Bool) → p x ≡ b → member i (positions_from p (i + 1) xs) ≡ false
          → member i (pick (p x) (i ∷ positions_from p (i + 1) xs) (positions_from p (i + 1) xs)) ≡ p x
      go true h r = rw h (member-here i (positions_from p (i + 1) xs))
      go false h r = rw h r
  positions-at d i (suc k) (x ∷ xs) h =
      let e : i + suc k ≡ i + 1 + k = omega arith in
      rw e (go (p x) refl (positions-at d (i + 1) k xs (omega arith)))
    where
      go : (b : Bool) → p x ≡ b → member (i + 1 + k) (positions_from p (i + 1) xs) ≡ p (get_or xs k d)
          → member (i + 1 + k) (pick (p x) (i ∷ positions_from p (i + 1) xs) (positions_from p (i + 1) xs)) ≡ p (get_or xs k d)
      go true h r = rw (h, same-no (i + 1 + k) i (λ q. omega arith)) r
      go false h r = rw h r

  pub member-position : (d : A) (xs : List A) (k : ℕ) → k < length xs → member k (positions p xs) ≡ p (get_or xs k d)
  member-position d xs k h = let e : 0 + k ≡ k = omega arith in rw e at (positions-at d 0 k xs h)

  pub position-below : (xs : List A) (k : ℕ) → member k (positions p xs) ≡ true → k < length xs
  position-below xs k m = let r = ascends-member (0 + length xs) 0 k (positions p xs) (positions-ascend 0 xs) m in omega arith

  pub position-passes : (d : A) (xs : List A) (k : ℕ) → member k (positions p xs) ≡ true → p (get_or xs k d) ≡ true
  position-passes d xs k m = sym (member-position d xs k (position-below xs k m)) ∙ m

  pub positions-rise : (xs : List A) → ascends (length xs) 0 (positions p xs) ≡ true
  positions-rise xs = let e : 0 + length xs ≡ length xs = omega arith in rw e at (positions-ascend 0 xs)

  -- the ascending list with just these members
  pub positions-are : (d : A) (xs : List A) (l : List ℕ) → ascends (length xs) 0 l ≡ true
      → ((k : ℕ) → k < length xs → member k l ≡ p (get_or xs k d)) → l ≡ positions p xs
  positions-are d xs l h f = ascends_same (length xs) 0 l (positions p xs) h (positions-rise xs) (λ z. go z (dec_lt z (length xs)))
    where
      go : (z : ℕ) → Dec (z < length xs) → member z l ≡ member z (positions p xs)
      go z (yes u) = f z u ∙ sym (member-position d xs z u)
      go z (no u) =
          not-true-false (member z l) (λ m. u (ascends-member (length xs) 0 z l h m))
          ∙ sym (not-true-false (member z (positions p xs)) (λ m. u (position-below xs z m)))

  pub positions-length : (i : ℕ) (xs : List A) → length (positions_from p i xs) ≡ length (keep p xs)
  unfolding positions_from keep
  positions-length i [] = refl
  positions-length i (x ∷ xs) = go (p x) refl (positions-length (i + 1) xs)
    where
      go : (b : Bool) → p x ≡ b → length (positions_from p (i + 1) xs) ≡ length (keep p xs)
          → length (pick (p x) (i ∷ positions_from p (i + 1) xs) (positions_from p (i + 1) xs)) ≡ length (pick (p x) (x ∷ keep p xs) (keep p xs))
      go true h r = rw (h, r)
      go false h r = rw (h, r)

  pub positions-append : (i : ℕ) (xs ys : List A) → positions_from p i (xs ++ ys) ≡ positions_from p i xs ++ positions_from p (i + length xs) ys
  unfolding positions_from
  positions-append i [] ys = let e : i + 0 ≡ i = omega arith in rw e
  positions-append i (x ∷ xs) ys =
      let e : i + 1 + length xs ≡ i + suc (length xs) = omega arith in
      go (p x) refl (rw e at (positions-append (i + 1) xs ys))
    where
      go : (b : Bool) → p x ≡ b
          → positions_from p (i + 1) (xs ++ ys) ≡ positions_from p (i + 1) xs ++ positions_from p (i + suc (length xs)) ys
          → pick (p x) (i ∷ positions_from p (i + 1) (xs ++ ys)) (positions_from p (i + 1) (xs ++ ys))
          ≡ pick (p x) (i ∷ positions_from p (i + 1) xs) (positions_from p (i + 1) xs) ++ positions_from p (i + suc (length xs)) ys
      go true h r = rw (h, r)
      go false h r = rw (h, r)

-- ---- positions in lists made by map and flat

module _ {A : Type 0} (p : A → Bool) where
  pub positions-all : (g : ℕ → A) → ((v : ℕ) → p (g v) ≡ true) → (i : ℕ) (vs : List ℕ) → positions_from p i (map g vs) ≡ from i (length vs)
  unfolding positions_from from
  positions-all g h i [] = refl
  positions-all g h i (v ∷ vs) = rw (h v, positions-all g h (i + 1) vs)

  pub positions-none : (g : ℕ → A) → ((v : ℕ) → p (g v) ≡ false) → (i : ℕ) (vs : List ℕ) → positions_from p i (map g vs) ≡ []
  unfolding positions_from
  positions-none g h i [] = refl
  positions-none g h i (v ∷ vs) = rw (h v) (positions-none g h (i + 1) vs)

  -- the lists of a range of numbers, each starting where the one before it ends
  pub positions-flat : (f : ℕ → List A) (start : ℕ → ℕ) (lo : ℕ) → ((x : ℕ) → lo ≤ x → start (x + 1) ≡ start x + length (f x)) → (a n : ℕ) → lo ≤ a
      → positions_from p (start a) (flat f (from a n)) ≡ flat (λ x. positions_from p (start x) (f x)) (from a n)
  unfolding flat from positions_from
  positions-flat f start lo next a zero h = refl
  positions-flat f start lo next a (suc n) h =
      positions-append p (start a) (f a) (flat f (from (a + 1) n))
      ∙ ap (λ (l : List ℕ). positions_from p (start a) (f a) ++ l)
      (ap (λ (s : ℕ). positions_from p s (flat f (from (a + 1) n))) (sym (next a h)) ∙ positions-flat f start lo next (a + 1) n (omega arith))

-- ---- ranges ascend, and so do the numbers of an ascending list that pass

pub from-ascends : (a n hi : ℕ) → a + n ≤ hi → ascends hi a (from a n) ≡ true
unfolding from ascends
from-ascends a zero hi h = refl
from-ascends a (suc n) hi h = ascends-cons hi a a (from (a + 1) n) (omega arith) (omega arith) ∙ from-ascends (a + 1) n hi (omega arith)

pub keep-ascends : (q : ℕ → Bool) (hi lo : ℕ) (xs : List ℕ) → ascends hi lo xs ≡ true → ascends hi lo (keep q xs) ≡ true
unfolding keep ascends
keep-ascends q hi lo [] h = refl
keep-ascends q hi lo (x ∷ xs) h = go (q x) (keep-ascends q hi (x + 1) xs (ascends-rest hi lo x xs h))
  where
    go : (b : Bool) → ascends hi (x + 1) (keep q xs) ≡ true → ascends hi lo (pick b (x ∷ keep q xs) (keep q xs)) ≡ true
    go true r = ascends-cons hi lo x (keep q xs) (ascends-first hi lo x xs h) (ascends-below hi lo x xs h) ∙ r
    go false r = let l = ascends-first hi lo x xs h in ascends-lower hi (x + 1) lo (keep q xs) (omega arith) r

-- what passes among the numbers from a on, where just those between lo and hi do
pub keep-span : (q : ℕ → Bool) (a n lo hi : ℕ) → a ≤ lo → hi ≤ a + n → ((v : ℕ) → a ≤ v → v < a + n → q v ≡ true → (lo ≤ v) × (v < hi))
    → ((v : ℕ) → lo ≤ v → v < hi → q v ≡ true) → keep q (from a n) ≡ from lo (hi - lo)
keep-span q a n lo hi l u f g =
    ascends_same (a + n + hi + lo) a (keep q (from a n)) (from lo (hi - lo)) (keep-ascends q (a + n + hi + lo) a (from a n) (from-ascends a n (a + n + hi + lo) (omega arith)))
    (ascends-lower (a + n + hi + lo) lo a (from lo (hi - lo)) l (from-ascends lo (hi - lo) (a + n + hi + lo) (omega arith)))
    (λ z. member-keep q z (from a n) ∙ both_ways (q z && member z (from a n)) (member z (from lo (hi - lo))) (to z) (of z))
  where
    to : (z : ℕ) → (q z && member z (from a n)) ≡ true → member z (from lo (hi - lo)) ≡ true
    to z h =
        let i = from_member z a n (and_right (q z) (member z (from a n)) h) in
        let r = f z i.0 i.1 (and_left (q z) (member z (from a n)) h) in
        member-from z lo (hi - lo) r.0 (omega (arith, r.0, r.1))

    of : (z : ℕ) → member z (from lo (hi - lo)) ≡ true → (q z && member z (from a n)) ≡ true
    of z h =
        let i = from_member z lo (hi - lo) h in
        let v : z < hi = omega (arith, i.0, i.1) in
        and_intro (q z) (member z (from a n)) (g z i.0 v) (member-from z a n (omega (arith, i.0)) (omega arith))
