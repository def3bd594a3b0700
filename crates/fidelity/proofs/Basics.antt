-- Laws of the small tests and functions that the proof of demand 3 uses throughout: changed functions, values that may be missing, spots,
-- motions.
use Prim.Native.Nat.{ℕ}
use mathlib.Core.Path.{◌≡◌, refl, sym, ◌∙◌}
use mathlib.Core.Logic.{◌≢◌, ◌⊎◌, inl, inr}
use mathlib.Core.Bool.{Bool, true, false, ◌&&◌, ◌||◌, true≢false, false≢true}
use mathlib.Core.Option.{Option, none, some}
use mathlib.Core.List.{List, [], ◌∷◌, ◌++◌}
use Rattle.lists.specs.Lists as Lists
use Rattle.lists.specs.Lists.{pick, same, member}
use Rattle.lists.proofs.Tests.{not-true-false, and_left, and_right, or_cases, or_right, same_self, same_true, same-no}
use Rattle.lists.proofs.Members.{member-append, member-one}
use Rattle.process.specs.States.{put}
use Rattle.places.specs.Transitions.{Test, test}
use Rattle.readback.specs.Configurations.{Spot, spot}
use Rattle.fidelity.specs.Inner.Marks.{same_spot, holds, given, stay, pass, asks}

-- ---- tests

pub or_swap : (a b : Bool) → (a || b) ≡ (b || a)
or_swap true true = refl
or_swap true false = refl
or_swap false true = refl
or_swap false false = refl

pub member-snoc : (x y : ℕ) (xs : List ℕ) → member x (xs ++ (y ∷ [])) ≡ (same x y || member x xs)
member-snoc x y xs = member-append x xs (y ∷ []) ∙ rw (member-one x y) (or_swap (member x xs) (same x y))

-- ---- values that may be missing

pub none-some : {v : ℕ} {o : Option ℕ} → o ≡ none → o ≡ some v → ⊥
none-some p q = cc

pub holds-eq : (o : Option ℕ) (v : ℕ) → holds o v ≡ true → o ≡ some v
holds-eq none v e = absurd (false≢true e)
holds-eq (some w) v e = rw (same_true v w e)

pub holds-some : (o : Option ℕ) (v : ℕ) → o ≡ some v → holds o v ≡ true
holds-some o v e = rw e (same_self v)

pub holds_not : (o : Option ℕ) (v : ℕ) → o ≢ some v → holds o v ≡ false
holds_not o v h = not-true-false (holds o v) (λ e. h (holds-eq o v e))

pub not-given : (o : Option ℕ) → given o ≡ false → o ≡ none
not-given none e = refl
not-given (some v) e = absurd (true≢false e)

pub given_is : (o : Option ℕ) → given o ≡ true → (v : ℕ) × (o ≡ some v)
given_is none h = absurd (false≢true h)
given_is (some v) h = (v, refl)

-- ---- a function changed at one number

pub put_self : {A : Type 0} (f : ℕ → A) (x : ℕ) (a : A) → put f x a x ≡ a
unfolding put
put_self f x a = rw (same_self x)

pub put_other : {A : Type 0} (f : ℕ → A) (x : ℕ) (a : A) (y : ℕ) → y ≢ x → put f x a y ≡ f y
unfolding put
put_other f x a y h = rw (same-no y x h)

pub put-pick : {A : Type 0} (f : ℕ → A) (x : ℕ) (a : A) (y : ℕ) → put f x a y ≡ pick (same y x) a (f y)
unfolding put
put-pick f x a y = refl

-- ---- spots and motions

pub same_spot-self : (p : Spot) → same_spot p p ≡ true
same_spot-self p = rw (same_self p.node, same_self p.index)

pub same_spot-true : (p q : Spot) → same_spot p q ≡ true → p ≡ q
same_spot-true p q e = go (same_true p.node q.node (and_left (same p.node q.node) (same p.index q.index) e))
    (same_true p.index q.index (and_right (same p.node q.node) (same p.index q.index) e))
  where
    go : p.node ≡ q.node → p.index ≡ q.index → p ≡ q
    go a b = let h : spot p.node p.index ≡ spot q.node q.index = rw (a, b) in h

pub pass-from : (a b c d : Spot) → pass a b ≡ pass c d → a ≡ c
pass-from a b c d h = cc

pub pass-to : (a b c d : Spot) → pass a b ≡ pass c d → b ≡ d
pass-to a b c d h = cc

pub stay-pass : (a b : Spot) → stay ≡ pass a b → ⊥
stay-pass a b h = cc

-- ---- tests of values

pub asks_none : (x v : ℕ) → asks [] x v ≡ false
unfolding Lists.some
asks_none x v = refl

pub asks_nothing : {A : Type 0} (x v : ℕ) → asks [] x v ≡ true → A
asks_nothing x v h = absurd (false≢true (sym (asks_none x v) ∙ h))

asks-more : (a u : ℕ) (ts : List Test) (x v : ℕ) → asks (test a u ∷ ts) x v ≡ ((same a x && same u v) || asks ts x v)
unfolding Lists.some
asks-more a u ts x v = refl

pub asks-cases : (a u : ℕ) (ts : List Test) (x v : ℕ) → asks (test a u ∷ ts) x v ≡ true → ((a ≡ x) × (u ≡ v)) ⊎ (asks ts x v ≡ true)
asks-cases a u ts x v h = go (or_cases (same a x && same u v) (asks ts x v) (sym (asks-more a u ts x v) ∙ h))
  where
    go : ((same a x && same u v) ≡ true) ⊎ (asks ts x v ≡ true) → ((a ≡ x) × (u ≡ v)) ⊎ (asks ts x v ≡ true)
    go (inl p) = inl (same_true a x (and_left (same a x) (same u v) p), same_true u v (and_right (same a x) (same u v) p))
    go (inr q) = inr q

pub asks-here : (a u : ℕ) (ts : List Test) → asks (test a u ∷ ts) a u ≡ true
asks-here a u ts = asks-more a u ts a u ∙ rw (same_self a, same_self u)

pub asks-there : (a u : ℕ) (ts : List Test) (x v : ℕ) → asks ts x v ≡ true → asks (test a u ∷ ts) x v ≡ true
asks-there a u ts x v h = asks-more a u ts x v ∙ or_right (same a x && same u v) (asks ts x v) h

pub asks-one : (a u x v : ℕ) → asks (test a u ∷ []) x v ≡ true → (a ≡ x) × (u ≡ v)
asks-one a u x v h = go (asks-cases a u [] x v h)
  where
    go : ((a ≡ x) × (u ≡ v)) ⊎ (asks [] x v ≡ true) → (a ≡ x) × (u ≡ v)
    go (inl p) = p
    go (inr q) = asks_nothing x v q

-- what holds of three tests holds of all that they ask
pub asks-three : (P : ℕ → ℕ → Type 0) (a i e k z j x v : ℕ) → P a i → P e k → P z j → asks (test a i ∷ test e k ∷ test z j ∷ []) x v ≡ true → P x v
asks-three P a i e k z j x v pa pe pz h = first (asks-cases a i (test e k ∷ test z j ∷ []) x v h)
  where
    third : (z ≡ x) × (j ≡ v) → P x v
    third (p, q) = rw (← p, ← q) pz

    second : ((e ≡ x) × (k ≡ v)) ⊎ (asks (test z j ∷ []) x v ≡ true) → P x v
    second (inl (p, q)) = rw (← p, ← q) pe
    second (inr q) = third (asks-one z j x v q)

    first : ((a ≡ x) × (i ≡ v)) ⊎ (asks (test e k ∷ test z j ∷ []) x v ≡ true) → P x v
    first (inl (p, q)) = rw (← p, ← q) pa
    first (inr q) = second (asks-cases e k (test z j ∷ []) x v q)
