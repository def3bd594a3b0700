-- Counting: how many numbers of a range pass a test, whose they are, and the pigeonhole: where fewer names have a value than there are values, some value is
-- in no name.
use Prim.Native.Nat.{ℕ, zero, suc, ◌+◌, ◌≤◌, ◌<◌}
use mathlib.Core.Path.{◌≡◌, refl, sym, ◌∙◌}
use mathlib.Core.Logic.{◌≢◌, ◌⊎◌, inl, inr}
use mathlib.Core.Bool.{Bool, true, false, ◌&&◌, ◌||◌, true≢false}
use mathlib.Core.Option.{Option, none, some}
use mathlib.Core.List.{List, [], ◌∷◌}
use native.Mathlib.Decide.{ℕ_discrete}
use native.Mathlib.Omega.{arith}
use lib.ListN.{length}
use Rattle.lists.specs.Lists.{bit, same, member}
use Rattle.lists.proofs.Tests.{same_self, same-no}
use Rattle.process.specs.States.{put}
use Rattle.fidelity.specs.Inner.Marks.{holds, given}
use Rattle.places.specs.Inner.Holding.{count}
use Rattle.places.proofs.Tallies.{sum, sum-add, count_same}
use Rattle.fidelity.proofs.Basics.{holds-eq, holds-some, put_self, put_other}

-- either v is nobody's value, or some name has it
seek : (e : ℕ → Option ℕ) (v lo n : ℕ) → ((x : ℕ) → lo ≤ x → x < lo + n → e x ≢ some v) ⊎ ((x : ℕ) × (lo ≤ x) × (x < lo + n) × (e x ≡ some v))
seek e v lo zero = inl (λ x h l. absurd (omega arith))
seek e v lo (suc n) = go (seek e v lo n) (holds (e (lo + n)) v) refl
  where
    go : ((x : ℕ) → lo ≤ x → x < lo + n → e x ≢ some v) ⊎ ((x : ℕ) × (lo ≤ x) × (x < lo + n) × (e x ≡ some v)) → (b : Bool) → holds (e (lo + n)) v ≡ b
        → ((x : ℕ) → lo ≤ x → x < lo + suc n → e x ≢ some v) ⊎ ((x : ℕ) × (lo ≤ x) × (x < lo + suc n) × (e x ≡ some v))
    go (inr (x, a, b, c)) d p = inr (x, a, omega arith, c)
    go (inl f) true p = inr (lo + n, omega arith, omega arith, holds-eq (e (lo + n)) v p)
    go (inl f) false p = inl (λ x h l q. last x h l q (ℕ_discrete x (lo + n)))
      where
        last : (x : ℕ) → lo ≤ x → x < lo + suc n → e x ≡ some v → Dec (x ≡ lo + n) → ⊥
        last x h l q (yes d) = true≢false (sym (holds-some (e (lo + n)) v (rw d at q)) ∙ p)
        last x h l q (no d) = f x h (omega arith) q

-- without x there is one less
count_less : (e : ℕ → Option ℕ) (x v lo n : ℕ) → lo ≤ x → x < lo + n → e x ≡ some v
    → count (λ y. given (e y)) lo n ≡ suc (count (λ y. given (put e x none y)) lo n)
unfolding count
count_less e x v lo zero h l q = absurd (omega arith)
count_less e x v lo (suc n) h l q = go (ℕ_discrete x (lo + n)) (λ k. count_less e x v lo n h k q)
  where
    go : Dec (x ≡ lo + n) → (x < lo + n → count (λ y. given (e y)) lo n ≡ suc (count (λ y. given (put e x none y)) lo n))
        → bit (given (e (lo + n))) + count (λ y. given (e y)) lo n ≡ suc (bit (given (put e x none (lo + n))) + count (λ y. given (put e x none y)) lo n)
    go (yes d) ih =
        let a : given (e (lo + n)) ≡ true = rw (← d, q) in
        let b : given (put e x none (lo + n)) ≡ false = rw (← d, put_self e x none) in
        let k : count (λ y. given (put e x none y)) lo n ≡ count (λ y. given (e y)) lo n
        = count_same (λ y. given (put e x none y)) (λ y. given (e y)) lo n (λ y f g. rw (put_other e x none y (λ p. omega arith))) in
        rw (a, b, k) (omega arith)
    go (no d) ih = rw (ih (omega arith), put_other e x none (lo + n) (λ p. d (sym p))) (omega arith)

-- the pigeonhole: n names from lo, N values from base
pub free-value : (N : ℕ) (e : ℕ → Option ℕ) (base lo n : ℕ) → count (λ y. given (e y)) lo n < N
    → (v : ℕ) × (base ≤ v) × (v < base + N) × ((x : ℕ) → lo ≤ x → x < lo + n → e x ≢ some v)
free-value zero e base lo n h = absurd (omega arith)
free-value (suc N) e base lo n h = go (seek e (base + N) lo n) (λ x. free-value N (put e x none) base lo n)
  where
    go : ((x : ℕ) → lo ≤ x → x < lo + n → e x ≢ some (base + N)) ⊎ ((x : ℕ) × (lo ≤ x) × (x < lo + n) × (e x ≡ some (base + N)))
        → ((x : ℕ) → count (λ y. given (put e x none y)) lo n < N
        → (v : ℕ) × (base ≤ v) × (v < base + N) × ((z : ℕ) → lo ≤ z → z < lo + n → put e x none z ≢ some v))
        → (v : ℕ) × (base ≤ v) × (v < base + suc N) × ((x : ℕ) → lo ≤ x → x < lo + n → e x ≢ some v)
    go (inl f) ih = (base + N, omega arith, omega arith, f)
    go (inr (x, a, b, q)) ih =
        let (v, p, l, f) = ih x (omega (arith, count_less e x (base + N) lo n a b q)) in
        (v, p, omega arith, λ z s t k. other v l f z s t k (ℕ_discrete z x))
      where
        other : (v : ℕ) → v < base + N → ((z : ℕ) → lo ≤ z → z < lo + n → put e x none z ≢ some v) → (z : ℕ) → lo ≤ z → z < lo + n → e z ≡ some v
            → Dec (z ≡ x) → ⊥
        other v l f z s t k (yes d) = let g : v ≡ base + N = cc in omega arith
        other v l f z s t k (no d) = f z s t (put_other e x none z d ∙ k)

pub count-two : (f g : ℕ → Bool) (lo n : ℕ) → ((x : ℕ) → f x ≡ true → g x ≡ false) → count f lo n + count g lo n ≤ n
unfolding count
count-two f g lo zero h = omega arith
count-two f g lo (suc n) h = go (f (lo + n)) refl (g (lo + n)) refl (count-two f g lo n h)
  where
    go : (a : Bool) → f (lo + n) ≡ a → (b : Bool) → g (lo + n) ≡ b → count f lo n + count g lo n ≤ n
        → bit (f (lo + n)) + count f lo n + (bit (g (lo + n)) + count g lo n) ≤ suc n
    go true p true q ih = absurd (true≢false (sym q ∙ h (lo + n) p))
    go true p false q ih = rw (p, q) (omega arith)
    go false p true q ih = rw (p, q) (omega arith)
    go false p false q ih = rw (p, q) (omega arith)

count-or : (f g : ℕ → Bool) (lo n : ℕ) → count (λ x. f x || g x) lo n ≤ count f lo n + count g lo n
unfolding count
count-or f g lo zero = omega arith
count-or f g lo (suc n) = go (f (lo + n)) (g (lo + n)) (count-or f g lo n)
  where
    go : (a b : Bool) → count (λ x. f x || g x) lo n ≤ count f lo n + count g lo n
        → bit (a || b) + count (λ x. f x || g x) lo n ≤ bit a + count f lo n + (bit b + count g lo n)
    go true b ih = omega arith
    go false b ih = omega arith

-- at most one number is x
count-self : (x lo n : ℕ) → count (λ y. same y x) lo n ≤ 1
unfolding count
count-self x lo zero = omega arith
count-self x lo (suc n) = go (ℕ_discrete (lo + n) x) (count-self x lo n)
  where
    never : (m : ℕ) → lo + m ≤ x → count (λ y. same y x) lo m ≡ 0
    never zero h = refl
    never (suc m) h = rw (same-no (lo + m) x (λ e. omega arith), never m (omega arith))

    go : Dec (lo + n ≡ x) → count (λ y. same y x) lo n ≤ 1 → bit (same (lo + n) x) + count (λ y. same y x) lo n ≤ 1
    go (yes e) ih = rw (never n (omega arith), e, same_self x) (omega arith)
    go (no e) ih = rw (same-no (lo + n) x e) (omega arith)

-- a list has at most its length of numbers
pub count-member : (l : List ℕ) (lo n : ℕ) → count (λ x. member x l) lo n ≤ length l
unfolding count member
count-member [] lo n = zero-count n
  where
    zero-count : (n : ℕ) → count (λ x. false) lo n ≤ 0
    zero-count zero = omega arith
    zero-count (suc n) = omega (arith, zero-count n)
count-member (y ∷ l) lo n = omega (arith, count-or (λ x. same x y) (λ x. member x l) lo n, count-self y lo n, count-member l lo n)

-- one term of a sum
sum_one : (f : ℕ → ℕ) (y n : ℕ) → y < n → f y ≤ sum f n
unfolding sum
sum_one f y zero l = absurd (omega arith)
sum_one f y (suc n) l = go (ℕ_discrete y n) (λ k. sum_one f y n k)
  where
    go : Dec (y ≡ n) → (y < n → f y ≤ sum f n) → f y ≤ f n + sum f n
    go (yes p) ih = rw p (omega arith)
    go (no p) ih = omega (arith, ih (omega arith))

-- where every number that passes has an owner below k, the owners have them all
pub owned-all : (f : ℕ → Bool) (t : ℕ → ℕ) (lo n k : ℕ) → ((x : ℕ) → lo ≤ x → x < lo + n → t x < k)
    → count f lo n ≤ sum (λ θ. count (λ x. same (t x) θ && f x) lo n) k
unfolding count
owned-all f t lo zero k h = omega arith
owned-all f t lo (suc n) k h =
    omega (
      arith,
      sum-add (λ θ. bit (same (t (lo + n)) θ && f (lo + n))) (λ θ. count (λ x. same (t x) θ && f x) lo n) k,
      owned-all f t lo n k (λ x a b. h x a (omega arith)),
      last,
    )
  where
    own : same (t (lo + n)) (t (lo + n)) ≡ true
    own = same_self (t (lo + n))

    last : bit (f (lo + n)) ≤ sum (λ θ. bit (same (t (lo + n)) θ && f (lo + n))) k
    last =
        let e : bit (same (t (lo + n)) (t (lo + n)) && f (lo + n)) ≡ bit (f (lo + n)) = rw own in
        omega (arith, sum_one (λ θ. bit (same (t (lo + n)) θ && f (lo + n))) (t (lo + n)) k (h (lo + n) (omega arith) (omega arith)))
