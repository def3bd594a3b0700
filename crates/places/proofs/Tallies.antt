-- Counting over ranges of numbers: sums, how many pass a test, and the largest of a list.
use Rattle.std.proofs.Common.{◌≡◌, ℕ, zero, suc, ◌+◌, ◌*◌, ◌<◌, ◌≤◌, Bool, true, false, not, ◌&&◌, ◌||◌, ltb, ◌⊎◌, List, [], ◌∷◌, map, length, get_or, sym, refl, ◌∙◌, inl, inr, true≢false, suc-mul, arith, ltb-false, ltb-true}
use mathlib.Core.Bool.{false≢true}
use native.Mathlib.Decide.{ℕ_discrete}
use Rattle.lists.specs.Lists.{pick, bit, same, from, range, some, member, total, Distinct, more}
use Rattle.lists.proofs.Tests.{or_cases, or_left, or_right, same_self, same-no}
use Rattle.lists.proofs.Members.{member-cases, member-here, member-there, member-nil}
use Rattle.places.specs.Held.{largest}
use Rattle.places.specs.Inner.Holding.{count}

-- ---- some element

pub some-intro : (p : ℕ → Bool) (x : ℕ) (xs : List ℕ) → member x xs ≡ true → p x ≡ true → some p xs ≡ true
unfolding some
some-intro p x [] m h = member-nil x m
some-intro p x (y ∷ ys) m h = go (member-cases x y ys m) (λ i. some-intro p x ys i h)
  where
    go : (x ≡ y) ⊎ (member x ys ≡ true) → (member x ys ≡ true → some p ys ≡ true) → (p y || some p ys) ≡ true
    go (inl e) ih = or_left (p y) (some p ys) (rw (← e) h)
    go (inr i) ih = or_right (p y) (some p ys) (ih i)

pub some-elim : (p : ℕ → Bool) (xs : List ℕ) → some p xs ≡ true → (x : ℕ) × (member x xs ≡ true) × (p x ≡ true)
unfolding some
some-elim p [] h = absurd (false≢true h)
some-elim p (y ∷ ys) h = go (or_cases (p y) (some p ys) h) (some-elim p ys)
  where
    go : (p y ≡ true) ⊎ (some p ys ≡ true) → (some p ys ≡ true → (x : ℕ) × (member x ys ≡ true) × (p x ≡ true))
        → (x : ℕ) × (member x (y ∷ ys) ≡ true) × (p x ≡ true)
    go (inl a) ih = (y, member-here y ys, a)
    go (inr b) ih = let (x, m, q) = ih b in (x, member-there x y ys m, q)

-- ---- sums below n

unfoldable pub sum : (ℕ → ℕ) → ℕ → ℕ
sum f zero = 0
sum f (suc n) = f n + sum f n

pub sum-le : (f g : ℕ → ℕ) (n : ℕ) → ((x : ℕ) → x < n → f x ≤ g x) → sum f n ≤ sum g n
unfolding sum
sum-le f g zero h = omega arith
sum-le f g (suc n) h = omega (arith, h n (omega arith), sum-le f g n (λ x l. h x (omega arith)))

pub sum_lt : (f g : ℕ → ℕ) (y n : ℕ) → y < n → f y < g y → ((x : ℕ) → x < n → f x ≤ g x) → sum f n < sum g n
unfolding sum
sum_lt f g y zero l s h = absurd (omega arith)
sum_lt f g y (suc n) l s h = go (ℕ_discrete y n) (λ k. sum_lt f g y n k s (λ x m. h x (omega arith)))
  where
    go : Dec (y ≡ n) → (y < n → sum f n < sum g n) → f n + sum f n < g n + sum g n
    go (yes p) ih = let q : f n < g n = rw p at s in omega (arith, sum-le f g n (λ x m. h x (omega arith)))
    go (no p) ih = omega (arith, ih (omega arith), h n (omega arith))

pub sum-most : (f : ℕ → ℕ) (c n : ℕ) → ((x : ℕ) → f x ≤ c) → sum f n ≤ n * c
unfolding sum
sum-most f c zero h = omega arith
sum-most f c (suc n) h = omega (arith, h n, sum-most f c n h, suc-mul n c)

pub sum-add : (f g : ℕ → ℕ) (n : ℕ) → sum (λ θ. f θ + g θ) n ≡ sum f n + sum g n
unfolding sum
sum-add f g zero = refl
sum-add f g (suc n) = rw (sum-add f g n) (omega arith)

sum-zero : (n : ℕ) → sum (λ θ. 0) n ≡ 0
unfolding sum
sum-zero zero = refl
sum-zero (suc n) = rw (sum-zero n)

-- the sum of a list over a range
pub total-sum : (f : ℕ → ℕ) (n : ℕ) → total (map f (range n)) ≡ sum f n
unfolding from sum total
total-sum f n = go n 0 ∙ shifted n
  where
    -- the numbers from a on
    tail : ℕ → ℕ → ℕ
    tail n a = sum (λ x. f (a + x)) n

    first : (n a : ℕ) → sum (λ x. f (a + x)) (suc n) ≡ f a + sum (λ x. f (a + 1 + x)) n
    first zero a = let e : a + 0 ≡ a = omega arith in rw e
    first (suc n) a = let e : a + suc n ≡ a + 1 + n = omega arith in rw (e, first n a) (omega arith)

    go : (n a : ℕ) → total (map f (from a n)) ≡ sum (λ x. f (a + x)) n
    go zero a = refl
    go (suc n) a = rw (go n (a + 1)) (sym (first n a))

    shifted : (n : ℕ) → sum (λ x. f (0 + x)) n ≡ sum f n
    shifted zero = refl
    shifted (suc n) = let e : 0 + n ≡ n = omega arith in rw (e, shifted n)

-- ---- how many pass a test

pub count-le : (f g : ℕ → Bool) (lo n : ℕ) → ((x : ℕ) → lo ≤ x → x < lo + n → f x ≡ true → g x ≡ true) → count f lo n ≤ count g lo n
unfolding count
count-le f g lo zero h = omega arith
count-le f g lo (suc n) h = go (f (lo + n)) refl (g (lo + n)) refl (count-le f g lo n (λ x a b. h x a (omega arith)))
  where
    go : (a : Bool) → f (lo + n) ≡ a → (b : Bool) → g (lo + n) ≡ b → count f lo n ≤ count g lo n
        → bit (f (lo + n)) + count f lo n ≤ bit (g (lo + n)) + count g lo n
    go true p true q ih = rw (p, q) (omega arith)
    go true p false q ih = absurd (false≢true (sym q ∙ h (lo + n) (omega arith) (omega arith) p))
    go false p b q ih = rw p (omega arith)

pub count-lt : (f g : ℕ → Bool) (y lo n : ℕ) → lo ≤ y → y < lo + n → f y ≡ false → g y ≡ true
    → ((x : ℕ) → lo ≤ x → x < lo + n → f x ≡ true → g x ≡ true) → count f lo n < count g lo n
unfolding count
count-lt f g y lo zero a b fy gy h = absurd (omega arith)
count-lt f g y lo (suc n) a b fy gy h = go (ℕ_discrete y (lo + n)) (λ k. count-lt f g y lo n a k fy gy (λ x c d. h x c (omega arith)))
  where
    step : (u : Bool) → f (lo + n) ≡ u → (v : Bool) → g (lo + n) ≡ v → bit (f (lo + n)) ≤ bit (g (lo + n))
    step true p true q = rw (p, q) (omega arith)
    step true p false q = absurd (false≢true (sym q ∙ h (lo + n) (omega arith) (omega arith) p))
    step false p v q = rw p (omega arith)

    go : Dec (y ≡ lo + n) → (y < lo + n → count f lo n < count g lo n) → bit (f (lo + n)) + count f lo n < bit (g (lo + n)) + count g lo n
    go (yes e) ih =
        let p : f (lo + n) ≡ false = rw (← e) fy in
        let q : g (lo + n) ≡ true = rw (← e) gy in
        rw (p, q) (omega (arith, count-le f g lo n (λ x c d. h x c (omega arith))))
    go (no e) ih = omega (arith, ih (omega arith), step (f (lo + n)) refl (g (lo + n)) refl)

pub count_most : (f : ℕ → Bool) (lo n : ℕ) → count f lo n ≤ n
unfolding count
count_most f lo zero = omega arith
count_most f lo (suc n) = go (f (lo + n)) (count_most f lo n)
  where
    go : (b : Bool) → count f lo n ≤ n → bit b + count f lo n ≤ suc n
    go true ih = omega arith
    go false ih = omega arith

pub count_same : (f g : ℕ → Bool) (lo n : ℕ) → ((x : ℕ) → lo ≤ x → x < lo + n → f x ≡ g x) → count f lo n ≡ count g lo n
unfolding count
count_same f g lo zero h = refl
count_same f g lo (suc n) h = rw (h (lo + n) (omega arith) (omega arith), count_same f g lo n (λ x a b. h x a (omega arith)))

-- one less without x
pub count-without : (f : ℕ → Bool) (x lo n : ℕ) → lo ≤ x → x < lo + n → f x ≡ true → count f lo n ≡ suc (count (λ y. not (same y x) && f y) lo n)
unfolding count
count-without f x lo zero a b h = absurd (omega arith)
count-without f x lo (suc n) a b h = go (ℕ_discrete x (lo + n)) (λ k. count-without f x lo n a k h)
  where
    go : Dec (x ≡ lo + n) → (x < lo + n → count f lo n ≡ suc (count (λ y. not (same y x) && f y) lo n))
        → bit (f (lo + n)) + count f lo n ≡ suc (bit (not (same (lo + n) x) && f (lo + n)) + count (λ y. not (same y x) && f y) lo n)
    go (yes d) ih =
        let k : count (λ y. not (same y x) && f y) lo n ≡ count f lo n
        = count_same (λ y. not (same y x) && f y) f lo n (λ y a l. rw (same-no y x (λ p. omega arith))) in
        rw (k, ← d, h, same_self x) (omega arith)
    go (no d) ih = rw (ih (omega arith), same-no (lo + n) x (λ p. d (sym p))) (omega arith)

pub distinct-count : (l : List ℕ) (f : ℕ → Bool) (lo n : ℕ) → Distinct l → ((x : ℕ) → member x l ≡ true → (lo ≤ x) × (x < lo + n) × (f x ≡ true))
    → length l ≤ count f lo n
unfolding member
distinct-count [] f lo n nd h = omega arith
distinct-count (x ∷ l) f lo n (more p nd) h =
    let (a, b, e) = h x (rw (same_self x)) in
    let ih : length l ≤ count (λ y. not (same y x) && f y) lo n = distinct-count l (λ y. not (same y x) && f y) lo n nd rest in
    omega (arith, count-without f x lo n a b e)
  where
    rest : (y : ℕ) → member y l ≡ true → (lo ≤ y) × (y < lo + n) × ((not (same y x) && f y) ≡ true)
    rest y m =
        let (a, b, e) = h y (or_right (same y x) (member y l) m) in
        (a, b, rw (same-no y x (λ q. true≢false (sym m ∙ rw q p))) e)

-- ---- numbers shared out by an owner

-- each number has one owner at most
ones-zero : (t n : ℕ) → n ≤ t → sum (λ θ. bit (same t θ)) n ≡ 0
unfolding sum
ones-zero t zero h = refl
ones-zero t (suc n) h = rw (same-no t n (λ p. omega arith), ones-zero t n (omega arith))

ones-le : (t n : ℕ) → sum (λ θ. bit (same t θ)) n ≤ 1
unfolding sum
ones-le t zero = omega arith
ones-le t (suc n) = go (ℕ_discrete t n) (ones-le t n)
  where
    go : Dec (t ≡ n) → sum (λ θ. bit (same t θ)) n ≤ 1 → bit (same t n) + sum (λ θ. bit (same t θ)) n ≤ 1
    go (yes p) ih = rw (ones-zero t n (omega arith), p, same_self n) (omega arith)
    go (no p) ih = rw (same-no t n p) (omega arith)

pub owned-most : (t : ℕ → ℕ) (lo n k : ℕ) → sum (λ θ. count (λ x. same (t x) θ) lo n) k ≤ n
unfolding count
owned-most t lo zero k = rw (sum-zero k) (omega arith)
owned-most t lo (suc n) k =
    omega (arith, sum-add (λ θ. bit (same (t (lo + n)) θ)) (λ θ. count (λ x. same (t x) θ) lo n) k, ones-le (t (lo + n)) k, owned-most t lo n k)

-- ---- the largest

pub largest-most : (x : ℕ) (xs : List ℕ) → member x xs ≡ true → x ≤ largest xs
unfolding largest
largest-most x [] m = member-nil x m
largest-most x (y ∷ ys) m = go (ltb y (largest ys)) refl (member-cases x y ys m) (largest-most x ys)
  where
    go : (b : Bool) → ltb y (largest ys) ≡ b → (x ≡ y) ⊎ (member x ys ≡ true) → (member x ys ≡ true → x ≤ largest ys)
        → x ≤ pick (ltb y (largest ys)) (largest ys) y
    go true e (inl p) ih = rw e (omega (arith, ltb-true y (largest ys) e))
    go true e (inr i) ih = rw e (ih i)
    go false e (inl p) ih = rw e (omega arith)
    go false e (inr i) ih = rw e (omega (arith, ltb-false y (largest ys) e, ih i))

pub largest-least : (c : ℕ) (xs : List ℕ) → ((x : ℕ) → member x xs ≡ true → x ≤ c) → largest xs ≤ c
unfolding largest
largest-least c [] h = omega arith
largest-least c (y ∷ ys) h = go (ltb y (largest ys)) (largest-least c ys (λ x m. h x (member-there x y ys m)))
  where
    go : (b : Bool) → largest ys ≤ c → pick b (largest ys) y ≤ c
    go true ih = ih
    go false ih = h y (member-here y ys)

-- ---- lists over a range

pub get_or-range : {A : Type 0} (f : ℕ → A) (d : A) (a n i : ℕ) → i < n → get_or (map f (from a n)) i d ≡ f (a + i)
unfolding from
get_or-range f d a zero i l = absurd (omega arith)
get_or-range f d a (suc n) zero l = let e : a + 0 ≡ a = omega arith in rw e
get_or-range f d a (suc n) (suc i) l = let e : a + 1 + i ≡ a + suc i = omega arith in get_or-range f d (a + 1) n i (omega arith) ∙ rw e

pub get_d_past : {A : Type 0} (d : A) (xs : List A) (i : ℕ) → length xs ≤ i → get_or xs i d ≡ d
get_d_past d [] i l = refl
get_d_past d (x ∷ xs) zero l = absurd (omega arith)
get_d_past d (x ∷ xs) (suc i) l = get_d_past d xs i (omega arith)
