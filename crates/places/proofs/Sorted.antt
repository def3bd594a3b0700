-- Laws of numbers put in order.
use Rattle.std.proofs.Common.{◌≡◌, ℕ, suc, ◌+◌, ◌<◌, ◌≤◌, Bool, true, false, ◌||◌, List, [], ◌∷◌, ◌++◌, length, sym, refl, ap, ◌∙◌, append-nil, arith, le-ltb, lt-ltb}
use native.Mathlib.Decide.{ℕ_discrete, dec_lt}
use Rattle.lists.specs.Lists.{same, member, Distinct, ascends}
use Rattle.lists.proofs.Tests.{same_self, same-no}
use Rattle.lists.proofs.Members.{member-here, member-there, not-member, distinct_head, distinct_tail}
use Rattle.lists.proofs.Ascending.{ascends-first, ascends-below, ascends-rest, ascends-cons}
use Rattle.lists.proofs.Positions.{ascends_same}
use Rattle.places.specs.Inner.Arcs.{insert, sorted}

-- ---- the three ways of putting a number in

pub insert-before : (k x : ℕ) (xs : List ℕ) → k < x → insert k (x ∷ xs) ≡ k ∷ x ∷ xs
unfolding insert
insert-before k x xs h = rw (lt-ltb k x h)

pub insert-here : (x : ℕ) (xs : List ℕ) → insert x (x ∷ xs) ≡ x ∷ xs
unfolding insert
insert-here x xs = rw (le-ltb x x (omega arith), same_self x)

pub insert-after : (k x : ℕ) (xs : List ℕ) → x < k → insert k (x ∷ xs) ≡ x ∷ insert k xs
unfolding insert
insert-after k x xs h = rw (le-ltb k x (omega arith), same-no k x (λ p. omega arith))

pub insert-last : (k : ℕ) → insert k [] ≡ k ∷ []
unfolding insert
insert-last k = refl

-- k below x, at x, or above
pub data Way (k x : ℕ) : Type 0 where
  below : k < x → Way k x
  here : k ≡ x → Way k x
  above : x < k → Way k x

pub way : (k x : ℕ) → Way k x
way k x = go (dec_lt k x) (ℕ_discrete k x)
  where
    go : Dec (k < x) → Dec (k ≡ x) → Way k x
    go (yes l) e = below l
    go (no l) (yes e) = here e
    go (no l) (no e) = above (omega arith)

pub insert-ascends : (n lo k : ℕ) (xs : List ℕ) → lo ≤ k → k < n → ascends n lo xs ≡ true → ascends n lo (insert k xs) ≡ true
unfolding ascends
insert-ascends n lo k [] l u h = rw (insert-last k) (ascends-cons n lo k [] l u)
insert-ascends n lo k (x ∷ xs) l u h = go (way k x) (insert-ascends n (x + 1) k xs)
  where
    go : Way k x → (x + 1 ≤ k → k < n → ascends n (x + 1) xs ≡ true → ascends n (x + 1) (insert k xs) ≡ true) → ascends n lo (insert k (x ∷ xs)) ≡ true
    go (below w) ih =
        rw (insert-before k x xs w)
        (ascends-cons n lo k (x ∷ xs) l u ∙ ascends-cons n (k + 1) x xs (omega arith) (ascends-below n lo x xs h) ∙ ascends-rest n lo x xs h)
    go (here w) ih = rw (w, insert-here x xs) h
    go (above w) ih =
        rw (insert-after k x xs w)
        (ascends-cons n lo x (insert k xs) (ascends-first n lo x xs h) (ascends-below n lo x xs h) ∙ ih (omega arith) u (ascends-rest n lo x xs h))

pub member-insert : (z k : ℕ) (xs : List ℕ) → member z (insert k xs) ≡ member z (k ∷ xs)
unfolding member
member-insert z k [] = rw (insert-last k)
member-insert z k (x ∷ xs) = go (way k x) (member-insert z k xs)
  where
    swap : (a b c : Bool) → (b || (a || c)) ≡ (a || (b || c))
    swap true true c = refl
    swap true false c = refl
    swap false true c = refl
    swap false false c = refl

    twice : (a c : Bool) → (a || c) ≡ (a || (a || c))
    twice true c = refl
    twice false c = refl

    go : Way k x → member z (insert k xs) ≡ (same z k || member z xs) → member z (insert k (x ∷ xs)) ≡ (same z k || (same z x || member z xs))
    go (below w) ih = rw (insert-before k x xs w)
    go (here w) ih = rw (w, insert-here x xs) (twice (same z x) (member z xs))
    go (above w) ih = rw (insert-after k x xs w, ih) (swap (same z k) (same z x) (member z xs))

pub insert-length : (k : ℕ) (xs : List ℕ) → length (insert k xs) ≤ suc (length xs)
insert-length k [] = rw (insert-last k) (omega arith)
insert-length k (x ∷ xs) = go (way k x) (insert-length k xs)
  where
    go : Way k x → length (insert k xs) ≤ suc (length xs) → length (insert k (x ∷ xs)) ≤ suc (suc (length xs))
    go (below w) ih = rw (insert-before k x xs w) (omega arith)
    go (here w) ih = rw (w, insert-here x xs) (omega arith)
    go (above w) ih = rw (insert-after k x xs w) (omega arith)

-- ---- a whole list

pub sorted-ascends : (n lo : ℕ) (ks : List ℕ) → ((k : ℕ) → member k ks ≡ true → (lo ≤ k) × (k < n)) → ascends n lo (sorted ks) ≡ true
unfolding sorted ascends
sorted-ascends n lo [] h = refl
sorted-ascends n lo (k ∷ ks) h =
    let r = h k (member-here k ks) in
    insert-ascends n lo k (sorted ks) r.0 r.1 (sorted-ascends n lo ks (λ z m. h z (member-there z k ks m)))

pub member-sorted : (z : ℕ) (ks : List ℕ) → member z (sorted ks) ≡ member z ks
unfolding sorted member
member-sorted z [] = refl
member-sorted z (k ∷ ks) = member-insert z k (sorted ks) ∙ rw (member-sorted z ks)

pub sorted-length : (ks : List ℕ) → length (sorted ks) ≤ length ks
unfolding sorted
sorted-length [] = omega arith
sorted-length (k ∷ ks) = omega (arith, insert-length k (sorted ks), sorted-length ks)

-- an ascending list with the same members is the list put in order
pub sorted-is : (n lo : ℕ) (ks l : List ℕ) → ascends n lo l ≡ true → ((k : ℕ) → member k ks ≡ true → (lo ≤ k) × (k < n)) → ((z : ℕ) → member z ks ≡ member z l)
    → sorted ks ≡ l
sorted-is n lo ks l a h f = ascends_same n lo (sorted ks) l (sorted-ascends n lo ks h) a (λ z. member-sorted z ks ∙ f z)

-- ---- a number put between lower and higher ones, and a list that is in order

pub insert-between : (k n lo : ℕ) (xs ys : List ℕ) → ascends k lo xs ≡ true → ascends n (k + 1) ys ≡ true → insert k (xs ++ ys) ≡ xs ++ (k ∷ ys)
insert-between k n lo [] [] a b = insert-last k
insert-between k n lo [] (y ∷ ys) a b = insert-before k y ys (omega (arith, ascends-first n (k + 1) y ys b))
insert-between k n lo (x ∷ xs) ys a b =
    insert-after k x (xs ++ ys) (ascends-below k lo x xs a)
    ∙ ap (λ (l : List ℕ). x ∷ l) (insert-between k n (x + 1) xs ys (ascends-rest k lo x xs a) b)

pub insert-end : (k lo : ℕ) (xs : List ℕ) → ascends k lo xs ≡ true → insert k xs ≡ xs ++ (k ∷ [])
unfolding ascends
insert-end k lo xs a = ap (insert k) (sym (append-nil xs)) ∙ insert-between k (k + 1) lo xs [] a refl

pub sorted-self : (n lo : ℕ) (xs : List ℕ) → ascends n lo xs ≡ true → sorted xs ≡ xs
unfolding sorted ascends
sorted-self n lo [] a = refl
sorted-self n lo (x ∷ xs) a =
    let r = ascends-rest n lo x xs a in
    ap (insert x) (sorted-self n (x + 1) xs r) ∙ insert-between x n 0 [] xs refl r

-- ---- how long it is where no number stands twice

pub insert-new : (k : ℕ) (xs : List ℕ) → member k xs ≡ false → length (insert k xs) ≡ suc (length xs)
insert-new k [] m = rw (insert-last k)
insert-new k (x ∷ xs) m = go (way k x) (insert-new k xs)
  where
    go : Way k x → (member k xs ≡ false → length (insert k xs) ≡ suc (length xs)) → length (insert k (x ∷ xs)) ≡ suc (suc (length xs))
    go (below w) ih = rw (insert-before k x xs w)
    go (here w) ih = absurd ((not-member k x xs m).0 w)
    go (above w) ih = rw (insert-after k x xs w, ih (not-member k x xs m).1)

pub sorted_all : (ks : List ℕ) → Distinct ks → length (sorted ks) ≡ length ks
unfolding sorted
sorted_all [] d = refl
sorted_all (k ∷ ks) d = insert-new k (sorted ks) (member-sorted k ks ∙ distinct_head d) ∙ ap suc (sorted_all ks (distinct_tail d))
