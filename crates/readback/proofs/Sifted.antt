-- What stands at the elements of a list that pass a test.
use Prim.Native.Nat.{ℕ}
use mathlib.Core.Path.{◌≡◌, refl, sym, ◌∙◌}
use mathlib.Core.Logic.{◌≢◌, ◌⊎◌, inl, inr}
use mathlib.Core.Bool.{Bool, true, false, true≢false}
use mathlib.Core.List.{List, [], ◌∷◌, ◌++◌, map, append-nil, append_assoc}
use native.Mathlib.Decide.{ℕ_discrete}
use Rattle.lists.specs.Lists.{pick, keep, flat, Distinct}
use Rattle.lists.proofs.Members.{distinct_head, distinct_tail}
use Rattle.readback.proofs.Elements.{Element, here, there, element-cases, element-member, no-element}

module _ {A B : Type 0} (p : A → Bool) (g : A → List B) where
  -- what stands at the elements that pass
  pub sift-cons : (x : A) (xs : List A) → flat g (keep p (x ∷ xs)) ≡ pick (p x) (g x) [] ++ flat g (keep p xs)
  unfolding keep flat
  sift-cons x xs = go (p x)
    where
      go : (b : Bool) → flat g (pick b (x ∷ keep p xs) (keep p xs)) ≡ pick b (g x) [] ++ flat g (keep p xs)
      go true = refl
      go false = refl

  pub sift-append : (xs ys : List A) → flat g (keep p (xs ++ ys)) ≡ flat g (keep p xs) ++ flat g (keep p ys)
  unfolding keep flat
  sift-append [] ys = refl
  sift-append (x ∷ xs) ys =
      sift-cons x (xs ++ ys) ∙ rw (sift-append xs ys, sift-cons x xs) (sym (append_assoc (pick (p x) (g x) []) (flat g (keep p xs)) (flat g (keep p ys))))

  pub sift-map : {C : Type 0} (f : C → A) (xs : List C) → flat g (keep p (map f xs)) ≡ flat (λ x. pick (p (f x)) (g (f x)) []) xs
  unfolding keep flat
  sift-map f [] = refl
  sift-map f (x ∷ xs) = sift-cons (f x) (map f xs) ∙ rw (sift-map f xs)

  pub sift-flat : {C : Type 0} (f : C → List A) (xs : List C) → flat g (keep p (flat f xs)) ≡ flat (λ x. flat g (keep p (f x))) xs
  unfolding keep flat
  sift-flat f [] = refl
  sift-flat f (x ∷ xs) = sift-append (f x) (flat f xs) ∙ rw (sift-flat f xs)

  pub sift-none : (xs : List A) → ((x : A) → Element x xs → g x ≡ []) → flat g (keep p xs) ≡ []
  unfolding keep flat
  sift-none [] h = refl
  sift-none (x ∷ xs) h = sift-cons x xs ∙ rw (sift-none xs (λ y e. h y (there e)), h x here) (go (p x))
    where
      go : (b : Bool) → ◌≡◌ {A = List B} (◌++◌ {A = B} (pick {A = List B} b [] []) []) []
      go true = refl
      go false = refl

pub flat-none : {A B : Type 0} (h : A → List B) (xs : List A) → ((x : A) → Element x xs → h x ≡ []) → flat h xs ≡ []
unfolding flat
flat-none h [] e = refl
flat-none h (x ∷ xs) e = rw (e x here) (flat-none h xs (λ y i. e y (there i)))

-- a number that stands once in the list, where all others give nothing
pub flat-only : {B : Type 0} (h : ℕ → List B) (x₀ : ℕ) (xs : List ℕ) → Distinct xs → Element x₀ xs → ((x : ℕ) → x ≢ x₀ → h x ≡ []) → flat h xs ≡ h x₀
unfolding flat
flat-only h x₀ [] D e o = no-element e
flat-only h x₀ (x ∷ xs) D e o = go (ℕ_discrete x x₀) (flat-only h x₀ xs (distinct_tail D))
  where
    after : x ≡ x₀ → flat h xs ≡ []
    after p = flat-none h xs (λ y i. o y (λ q. true≢false (sym (element-member xs i) ∙ rw (q ∙ sym p) (distinct_head D))))

    rest : x ≢ x₀ → (x₀ ≡ x) ⊎ Element x₀ xs → Element x₀ xs
    rest n (inl q) = absurd (n (sym q))
    rest n (inr i) = i

    go : Dec (x ≡ x₀) → (Element x₀ xs → ((x : ℕ) → x ≢ x₀ → h x ≡ []) → flat h xs ≡ h x₀) → h x ++ flat h xs ≡ h x₀
    go (yes p) ih = rw (after p, p) (append-nil (h x₀))
    go (no n) ih = rw (o x n) (ih (rest n (element-cases e)) o)
