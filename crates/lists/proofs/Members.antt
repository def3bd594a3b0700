-- What stands in a list: of ++, of a singleton, of parts, of map, keep and flat. A list in which no number stands twice.
use mathlib.Core.Path.{◌≡◌, refl, sym, ap, ◌∙◌}
use mathlib.Core.Bool.{Bool, true, false, not, ◌&&◌, ◌||◌}
use mathlib.Core.List.{List, [], ◌∷◌, ◌++◌, map}
use mathlib.Core.Logic.{◌⊎◌, inl, inr}
use Prim.Native.Nat.{ℕ, zero, suc, ◌+◌, ◌≤◌, ◌<◌}
use native.Mathlib.Decide.{ℕ_discrete}
use native.Mathlib.Omega.{arith}
use lib.Seq.{drop-cons}
use lib.ListN.{length, length-append, get_or, take, drop}
use Rattle.lists.specs.Lists.{pick, same, from, keep, flat, member, Distinct, none, more, total}
use Rattle.lists.proofs.Tests.{false-true, not-true-false, and-false, or_cases, or_left, or_right, or-false, or-none, or_assoc, same_self, same-yes, same-no}
use Rattle.lists.proofs.Tests.{same_true}
use Rattle.lists.proofs.Ranges.{from_member}

-- ---- one list

pub member-here : (x : ℕ) (xs : List ℕ) → member x (x ∷ xs) ≡ true
unfolding member
member-here x xs = or_left (same x x) (member x xs) (same_self x)

pub member-there : (x y : ℕ) (xs : List ℕ) → member x xs ≡ true → member x (y ∷ xs) ≡ true
unfolding member
member-there x y xs m = or_right (same x y) (member x xs) m

pub member-cases : (x y : ℕ) (xs : List ℕ) → member x (y ∷ xs) ≡ true → (x ≡ y) ⊎ (member x xs ≡ true)
unfolding member
member-cases x y xs m = go (or_cases (same x y) (member x xs) m)
  where
    go : (same x y ≡ true) ⊎ (member x xs ≡ true) → (x ≡ y) ⊎ (member x xs ≡ true)
    go (inl p) = inl (same_true x y p)
    go (inr p) = inr p

pub member-nil : {A : Type 0} (x : ℕ) → member x [] ≡ true → A
unfolding member
member-nil x m = false-true refl m

pub member-one : (x y : ℕ) → member x (y ∷ []) ≡ same x y
unfolding member
member-one x y = or-false (same x y)

pub one-member : (x y : ℕ) → member x (y ∷ []) ≡ true → x ≡ y
one-member x y m = same_true x y (sym (member-one x y) ∙ m)

-- x does not stand in y ∷ xs exactly where it is not y and does not stand in xs
pub member-not : (x y : ℕ) (xs : List ℕ) → (x ≡ y → ⊥) → member x xs ≡ false → member x (y ∷ xs) ≡ false
unfolding member
member-not x y xs d m = rw (same-no x y d) m

pub not-member : (x y : ℕ) (xs : List ℕ) → member x (y ∷ xs) ≡ false → (x ≡ y → ⊥) × (member x xs ≡ false)
unfolding member
not-member x y xs m = (λ p. false-true (or-none (same x y) (member x xs) m).0 (same-yes x y p), (or-none (same x y) (member x xs) m).1)

-- ---- two lists, one after the other

pub member-append : (x : ℕ) (xs ys : List ℕ) → member x (xs ++ ys) ≡ (member x xs || member x ys)
unfolding member
member-append x [] ys = refl
member-append x (y ∷ xs) ys = rw (member-append x xs ys) (sym (or_assoc (same x y) (member x xs) (member x ys)))

pub member-left : (x : ℕ) (xs ys : List ℕ) → member x xs ≡ true → member x (xs ++ ys) ≡ true
member-left x xs ys m = member-append x xs ys ∙ or_left (member x xs) (member x ys) m

pub member_right : (x : ℕ) (xs ys : List ℕ) → member x ys ≡ true → member x (xs ++ ys) ≡ true
member_right x xs ys m = member-append x xs ys ∙ or_right (member x xs) (member x ys) m

pub append-member : (x : ℕ) (xs ys : List ℕ) → member x (xs ++ ys) ≡ true → (member x xs ≡ true) ⊎ (member x ys ≡ true)
append-member x xs ys m = or_cases (member x xs) (member x ys) (sym (member-append x xs ys) ∙ m)

pub append-not-member : (x : ℕ) (xs ys : List ℕ) → member x (xs ++ ys) ≡ false → (member x xs ≡ false) × (member x ys ≡ false)
append-not-member x xs ys m = or-none (member x xs) (member x ys) (sym (member-append x xs ys) ∙ m)

-- one more at the end
pub snoc-member : (x y : ℕ) (xs : List ℕ) → member x (xs ++ (y ∷ [])) ≡ true → (member x xs ≡ true) ⊎ (x ≡ y)
snoc-member x y xs m = go (append-member x xs (y ∷ []) m)
  where
    go : (member x xs ≡ true) ⊎ (member x (y ∷ []) ≡ true) → (member x xs ≡ true) ⊎ (x ≡ y)
    go (inl p) = inl p
    go (inr p) = inr (one-member x y p)

pub member-last : (y : ℕ) (xs : List ℕ) → member y (xs ++ (y ∷ [])) ≡ true
member-last y xs = member_right y xs (y ∷ []) (member-here y [])

-- ---- positions and parts

pub member-get_or : (xs : List ℕ) (i : ℕ) → i < length xs → member (get_or xs i 0) xs ≡ true
member-get_or [] i h = absurd (omega arith)
member-get_or (y ∷ xs) zero h = member-here y xs
member-get_or (y ∷ xs) (suc i) h = member-there (get_or xs i 0) y xs (member-get_or xs i (omega arith))

-- where x stands
pub record Place (x : ℕ) (xs : List ℕ) : Type 0 where
  pub place : ℕ
  pub inside : place < length xs
  pub holds : get_or xs place 0 ≡ x

pub member-place : (x : ℕ) (xs : List ℕ) → member x xs ≡ true → Place x xs
member-place x [] m = member-nil x m
member-place x (y ∷ xs) m = go (member-cases x y xs m) (member-place x xs)
  where
    go : (x ≡ y) ⊎ (member x xs ≡ true) → (member x xs ≡ true → Place x xs) → Place x (y ∷ xs)
    go (inl p) f = record { place = 0; inside = omega arith; holds = sym p }
    go (inr q) f = let r = f q in record { place = suc r.place; inside = omega arith; holds = r.holds }

pub member-take : (x i : ℕ) (xs : List ℕ) → member x (take i xs) ≡ true → member x xs ≡ true
member-take x zero xs m = member-nil x m
member-take x (suc i) [] m = m
member-take x (suc i) (y ∷ xs) m = go (member-cases x y (take i xs) m) (member-take x i xs)
  where
    go : (x ≡ y) ⊎ (member x (take i xs) ≡ true) → (member x (take i xs) ≡ true → member x xs ≡ true) → member x (y ∷ xs) ≡ true
    go (inl p) f = rw p (member-here y xs)
    go (inr q) f = member-there x y xs (f q)

pub member-drop : (x i : ℕ) (xs : List ℕ) → member x (drop i xs) ≡ true → member x xs ≡ true
member-drop x zero xs m = m
member-drop x (suc i) [] m = m
member-drop x (suc i) (y ∷ xs) m = member-there x y xs (member-drop x i xs m)

pub member-head : (xs : List ℕ) (i : ℕ) → i < length xs → member (get_or xs i 0) (drop i xs) ≡ true
member-head [] i h = absurd (omega arith)
member-head (y ∷ xs) zero h = member-here y xs
member-head (y ∷ xs) (suc i) h = member-head xs i (omega arith)

-- ---- map, keep and flat

-- an element of xs of which P holds
pub record Source (P : ℕ → Type 0) (xs : List ℕ) : Type 0 where
  pub source : ℕ
  pub stands : member source xs ≡ true
  pub gives : P source

pub source-there : {P : ℕ → Type 0} (y : ℕ) (xs : List ℕ) → Source P xs → Source P (y ∷ xs)
source-there y xs s = record { source = s.source; stands = member-there s.source y xs s.stands; gives = s.gives }

pub source-here : {P : ℕ → Type 0} (y : ℕ) (xs : List ℕ) → P y → Source P (y ∷ xs)
source-here y xs g = record { source = y; stands = member-here y xs; gives = g }

module _ (f : ℕ → ℕ) where
  pub member-map : (x : ℕ) (xs : List ℕ) → member x xs ≡ true → member (f x) (map f xs) ≡ true
  member-map x [] m = member-nil x m
  member-map x (y ∷ xs) m = go (member-cases x y xs m) (member-map x xs)
    where
      go : (x ≡ y) ⊎ (member x xs ≡ true) → (member x xs ≡ true → member (f x) (map f xs) ≡ true) → member (f x) (f y ∷ map f xs) ≡ true
      go (inl p) ih = rw p (member-here (f y) (map f xs))
      go (inr q) ih = member-there (f x) (f y) (map f xs) (ih q)

  pub map-member : (z : ℕ) (xs : List ℕ) → member z (map f xs) ≡ true → Source (λ x. z ≡ f x) xs
  map-member z [] m = member-nil z m
  map-member z (y ∷ xs) m = go (member-cases z (f y) (map f xs) m) (map-member z xs)
    where
      go : (z ≡ f y) ⊎ (member z (map f xs) ≡ true) → (member z (map f xs) ≡ true → Source (λ x. z ≡ f x) xs) → Source (λ x. z ≡ f x) (y ∷ xs)
      go (inl p) ih = source-here {P = λ x. z ≡ f x} y xs p
      go (inr q) ih = source-there {P = λ x. z ≡ f x} y xs (ih q)

module _ (p : ℕ → Bool) where
  pub keep-yes : (x : ℕ) (xs : List ℕ) → p x ≡ true → keep p (x ∷ xs) ≡ x ∷ keep p xs
  unfolding keep
  keep-yes x xs h = rw h

  pub keep-no : (x : ℕ) (xs : List ℕ) → p x ≡ false → keep p (x ∷ xs) ≡ keep p xs
  unfolding keep
  keep-no x xs h = rw h

  pub keep_append : (xs ys : List ℕ) → keep p (xs ++ ys) ≡ keep p xs ++ keep p ys
  unfolding keep
  keep_append [] ys = refl
  keep_append (x ∷ xs) ys = go (p x) refl (keep_append xs ys)
    where
      go : (b : Bool) → p x ≡ b → keep p (xs ++ ys) ≡ keep p xs ++ keep p ys → keep p (x ∷ (xs ++ ys)) ≡ keep p (x ∷ xs) ++ keep p ys
      go true h ih = rw (h, ih)
      go false h ih = rw (h, ih)

  pub member-keep : (x : ℕ) (xs : List ℕ) → member x (keep p xs) ≡ (p x && member x xs)
  unfolding keep member
  member-keep x [] = sym (and-false (p x))
  member-keep x (y ∷ xs) = go (p y) refl (ℕ_discrete x y) (member-keep x xs)
    where
      go : (b : Bool) → p y ≡ b → Dec (x ≡ y) → member x (keep p xs) ≡ (p x && member x xs)
          → member x (pick (p y) (y ∷ keep p xs) (keep p xs)) ≡ (p x && (same x y || member x xs))
      go true h (yes e) ih = rw (h, e, same_self y, h)
      go true h (no d) ih = rw (h, same-no x y d) ih
      go false h (yes e) ih = rw h (ih ∙ rw (e, h))
      go false h (no d) ih = rw (h, same-no x y d) ih

  pub keep-length : (xs : List ℕ) → length (keep p xs) ≤ length xs
  unfolding keep
  keep-length [] = omega arith
  keep-length (x ∷ xs) = go (p x) refl (keep-length xs)
    where
      go : (b : Bool) → p x ≡ b → length (keep p xs) ≤ length xs → length (keep p (x ∷ xs)) ≤ length (x ∷ xs)
      go true h ih = rw h (omega arith)
      go false h ih = rw h (omega arith)

pub keep_same : (p q : ℕ → Bool) (xs : List ℕ) → ((x : ℕ) → member x xs ≡ true → p x ≡ q x) → keep p xs ≡ keep q xs
unfolding keep
keep_same p q [] f = refl
keep_same p q (y ∷ ys) f = rw (f y (member-here y ys), keep_same p q ys (λ x m. f x (member-there x y ys m)))

-- all elements pass, or none
pub keep_all : (p : ℕ → Bool) (xs : List ℕ) → ((x : ℕ) → member x xs ≡ true → p x ≡ true) → keep p xs ≡ xs
unfolding keep
keep_all p [] f = refl
keep_all p (x ∷ xs) f = rw (f x (member-here x xs), keep_all p xs (λ z m. f z (member-there z x xs m)))

pub keep-none : (p : ℕ → Bool) (xs : List ℕ) → ((x : ℕ) → member x xs ≡ true → p x ≡ false) → keep p xs ≡ []
unfolding keep
keep-none p [] f = refl
keep-none p (x ∷ xs) f = rw (f x (member-here x xs), keep-none p xs (λ z m. f z (member-there z x xs m)))

pub map_same : {A B : Type 0} (f g : A → B) (xs : List A) → ((x : A) → f x ≡ g x) → map f xs ≡ map g xs
map_same f g [] h = refl
map_same f g (x ∷ xs) h = rw (h x, map_same f g xs h)

pub map-append : {A B : Type 0} (f : A → B) (xs ys : List A) → map f (xs ++ ys) ≡ map f xs ++ map f ys
map-append f [] ys = refl
map-append f (x ∷ xs) ys = rw (map-append f xs ys)

pub flat-same : {A : Type 0} (f g : ℕ → List A) (xs : List ℕ) → ((x : ℕ) → member x xs ≡ true → f x ≡ g x) → flat f xs ≡ flat g xs
unfolding flat
flat-same f g [] h = refl
flat-same f g (y ∷ ys) h = rw (h y (member-here y ys), flat-same f g ys (λ x m. h x (member-there x y ys m)))

pub flat-length : {A B : Type 0} (f : A → List B) (xs : List A) → length (flat f xs) ≡ total (map (λ x. length (f x)) xs)
unfolding flat total
flat-length f [] = refl
flat-length f (x ∷ xs) = length-append (f x) (flat f xs) ∙ rw (flat-length f xs)

module _ (f : ℕ → List ℕ) where
  pub member-flat : (z x : ℕ) (xs : List ℕ) → member x xs ≡ true → member z (f x) ≡ true → member z (flat f xs) ≡ true
  unfolding flat
  member-flat z x [] m n = member-nil x m
  member-flat z x (y ∷ xs) m n = go (member-cases x y xs m) (λ q. member-flat z x xs q n)
    where
      go : (x ≡ y) ⊎ (member x xs ≡ true) → (member x xs ≡ true → member z (flat f xs) ≡ true) → member z (f y ++ flat f xs) ≡ true
      go (inl p) ih = member-left z (f y) (flat f xs) (rw p at n)
      go (inr q) ih = member_right z (f y) (flat f xs) (ih q)

  pub flat-member : (z : ℕ) (xs : List ℕ) → member z (flat f xs) ≡ true → Source (λ x. member z (f x) ≡ true) xs
  unfolding flat
  flat-member z [] m = member-nil z m
  flat-member z (y ∷ xs) m = go (append-member z (f y) (flat f xs) m) (flat-member z xs)
    where
      go : (member z (f y) ≡ true) ⊎ (member z (flat f xs) ≡ true) → (member z (flat f xs) ≡ true → Source (λ x. member z (f x) ≡ true) xs)
          → Source (λ x. member z (f x) ≡ true) (y ∷ xs)
      go (inl p) ih = source-here {P = λ x. member z (f x) ≡ true} y xs p
      go (inr q) ih = source-there {P = λ x. member z (f x) ≡ true} y xs (ih q)

-- ---- no number twice

pub distinct_head : {x : ℕ} {xs : List ℕ} → Distinct (x ∷ xs) → member x xs ≡ false
distinct_head (more m d) = m

pub distinct_tail : {x : ℕ} {xs : List ℕ} → Distinct (x ∷ xs) → Distinct xs
distinct_tail (more m d) = d

-- two lists in which no number stands twice and that share none
pub distinct_append : (xs ys : List ℕ) → Distinct xs → Distinct ys → ((x : ℕ) → member x xs ≡ true → member x ys ≡ false) → Distinct (xs ++ ys)
distinct_append [] ys d e f = e
distinct_append (x ∷ xs) ys d e f =
    more (member-append x xs ys ∙ rw (distinct_head d, f x (member-here x xs)))
    (distinct_append xs ys (distinct_tail d) e (λ z m. f z (member-there z x xs m)))

-- and back
pub append-distinct : (xs ys : List ℕ) → Distinct (xs ++ ys) → Distinct xs × Distinct ys × ((x : ℕ) → member x xs ≡ true → member x ys ≡ false)
append-distinct [] ys d = (none, d, λ x m. member-nil x m)
append-distinct (y ∷ xs) ys (more m d) =
    let r = append-distinct xs ys d in
    let n = append-not-member y xs ys m in
    (more n.0 r.0, r.1, λ x k. go x n.1 r.2 (member-cases x y xs k))
  where
    go : (x : ℕ) → member y ys ≡ false → ((x : ℕ) → member x xs ≡ true → member x ys ≡ false) → (x ≡ y) ⊎ (member x xs ≡ true) → member x ys ≡ false
    go x n f (inl e) = rw e n
    go x n f (inr k) = f x k

pub distinct-one : (x : ℕ) → Distinct (x ∷ [])
unfolding member
distinct-one x = more refl none

pub distinct_snoc : (y : ℕ) (xs : List ℕ) → Distinct xs → member y xs ≡ false → Distinct (xs ++ (y ∷ []))
distinct_snoc y xs d m =
    distinct_append xs (y ∷ []) d (distinct-one y) (λ x h. member-one x y ∙ same-no x y (λ p. false-true m (rw p at h)))

pub distinct_from : (a n : ℕ) → Distinct (from a n)
unfolding from
distinct_from a zero = none
distinct_from a (suc n) =
    more (not-true-false (member a (from (a + 1) n)) (λ m. omega (arith, from_member a (a + 1) n m))) (distinct_from (a + 1) n)

pub distinct-take : (i : ℕ) (xs : List ℕ) → Distinct xs → Distinct (take i xs)
distinct-take zero xs d = none
distinct-take (suc i) [] d = none
distinct-take (suc i) (x ∷ xs) (more m d) =
    more (not-true-false (member x (take i xs)) (λ h. false-true m (member-take x i xs h))) (distinct-take i xs d)

pub distinct-drop : (i : ℕ) (xs : List ℕ) → Distinct xs → Distinct (drop i xs)
distinct-drop zero xs d = d
distinct-drop (suc i) [] d = none
distinct-drop (suc i) (x ∷ xs) (more m d) = distinct-drop i xs d

-- an element is not among the later ones, nor among the earlier ones
pub distinct-later : (xs : List ℕ) (i : ℕ) → Distinct xs → i < length xs → member (get_or xs i 0) (drop (suc i) xs) ≡ false
distinct-later [] i d h = absurd (omega arith)
distinct-later (x ∷ xs) zero d h = distinct_head d
distinct-later (x ∷ xs) (suc i) d h = distinct-later xs i (distinct_tail d) (omega arith)

pub distinct-earlier : (xs : List ℕ) (i : ℕ) → Distinct xs → i < length xs → member (get_or xs i 0) (take i xs) ≡ false
unfolding member
distinct-earlier [] i d h = absurd (omega arith)
distinct-earlier (x ∷ xs) zero d h = refl
distinct-earlier (x ∷ xs) (suc i) d h =
    member-not (get_or xs i 0) x (take i xs) (λ p. false-true (distinct_head d) (rw p at (member-get_or xs i (omega arith))))
    (distinct-earlier xs i (distinct_tail d) (omega arith))

pub distinct-keep : (p : ℕ → Bool) (xs : List ℕ) → Distinct xs → Distinct (keep p xs)
unfolding keep
distinct-keep p [] d = none
distinct-keep p (x ∷ xs) (more m d) = go (p x) refl (distinct-keep p xs d)
  where
    out : member x (keep p xs) ≡ false
    out = member-keep p x xs ∙ rw m (and-false (p x))

    go : (b : Bool) → p x ≡ b → Distinct (keep p xs) → Distinct (pick (p x) (x ∷ keep p xs) (keep p xs))
    go true h e = rw h (more out e)
    go false h e = rw h e

-- two places of one element are one
pub distinct-place : (xs : List ℕ) (i j : ℕ) → Distinct xs → i < length xs → j < length xs → get_or xs i 0 ≡ get_or xs j 0 → i ≡ j
distinct-place [] i j d h l e = absurd (omega arith)
distinct-place (x ∷ xs) zero zero d h l e = refl
distinct-place (x ∷ xs) zero (suc j) d h l e = false-true (distinct_head d) (rw e (member-get_or xs j (omega arith)))
distinct-place (x ∷ xs) (suc i) zero d h l e = false-true (distinct_head d) (rw (← e) (member-get_or xs i (omega arith)))
distinct-place (x ∷ xs) (suc i) (suc j) d h l e = ap suc (distinct-place xs i j (distinct_tail d) (omega arith) (omega arith) e)

-- what is left after an element
pub member-rest : (x : ℕ) (xs : List ℕ) (i : ℕ) → Distinct xs → i < length xs
    → member x (drop (suc i) xs) ≡ (not (same x (get_or xs i 0)) && member x (drop i xs))
unfolding member
member-rest x xs i d h = go (ℕ_discrete x (get_or xs i 0))
  where
    go : Dec (x ≡ get_or xs i 0) → member x (drop (suc i) xs) ≡ (not (same x (get_or xs i 0)) && member x (drop i xs))
    go (yes p) = rw (p, same_self (get_or xs i 0)) (distinct-later xs i d h)
    go (no n) = rw (same-no x (get_or xs i 0) n, drop-cons xs i 0, same-no x (get_or xs i 0) n)
