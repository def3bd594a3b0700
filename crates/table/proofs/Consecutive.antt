-- Consecutive ranges: they cover every number from the first to the end, and no number lies in two of them.
use mathlib.Core.Path.{◌≡◌, sym, ◌∙◌}
use mathlib.Core.Bool.{true, false}
use mathlib.Core.List.{List, [], ◌∷◌}
use mathlib.Core.Logic.{◌⊎◌, inl, inr}
use Prim.Native.Nat.{ℕ, ◌+◌, ◌≤◌, ◌<◌}
use native.Mathlib.Decide.{dec_lt}
use native.Mathlib.Omega.{arith}
use Rattle.lists.specs.Lists.{same, member}
use Rattle.lists.proofs.Tests.{true-or-false, and_both, same_true}
use Rattle.lists.proofs.Members.{member-cases, member-nil, Source, source-here, source-there}
use Rattle.table.specs.Causes.{consecutive}

module _ (w : List ℕ) (first size : ℕ → ℕ) (end : ℕ) where
  -- b lies in the range of n
  abbrev pub In : ℕ → ℕ → Type 0
  In b n = (first n ≤ b) × (b < first n + size n)

  -- the first range, and what is left
  abbrev Split : ℕ → ℕ → List ℕ → Type 0
  Split a n ns =
      ((size n ≡ 0) × (consecutive w first size end a ns ≡ true)) ⊎ ((first n ≡ a) × (consecutive w first size end (a + size n) ns ≡ true))

  split : (a n : ℕ) (ns : List ℕ) → consecutive w first size end a (n ∷ ns) ≡ true → Split a n ns
  unfolding consecutive
  split a n ns h = go (true-or-false (same (size n) 0))
    where
      go : (same (size n) 0 ≡ true) ⊎ (same (size n) 0 ≡ false) → Split a n ns
      go (inl e) = inl (same_true (size n) 0 e, rw e at h)
      go (inr e) =
          let t = and_both (same (first n) a) (consecutive w first size end (a + size n) ns) (rw e at h) in
          inr (same_true (first n) a t.0, t.1)

  -- every range begins at a or above
  pub range-above : (a : ℕ) (ns : List ℕ) → consecutive w first size end a ns ≡ true → (b n : ℕ) → member n ns ≡ true → In b n → a ≤ b
  range-above a [] h b n m i = member-nil n m
  range-above a (k ∷ ns) h b n m i = go (split a k ns h) (member-cases n k ns m) (λ c g q. range-above c ns g b n q i)
    where
      go : Split a k ns → (n ≡ k) ⊎ (member n ns ≡ true) → ((c : ℕ) → consecutive w first size end c ns ≡ true → member n ns ≡ true → c ≤ b) → a ≤ b
      go (inl (z, g)) (inl e) ih = let j : In b k = rw e at i in absurd (omega arith)
      go (inr (z, g)) (inl e) ih = let j : In b k = rw e at i in omega arith
      go (inl (z, g)) (inr q) ih = ih a g q
      go (inr (z, g)) (inr q) ih = omega (arith, ih (a + size k) g q)

  -- no number lies in two ranges
  pub range_unique : (a : ℕ) (ns : List ℕ) → consecutive w first size end a ns ≡ true
      → (b m n : ℕ) → member m ns ≡ true → member n ns ≡ true → In b m → In b n → m ≡ n
  range_unique a [] h b m n p q i j = member-nil m p
  range_unique a (k ∷ ns) h b m n p q i j =
      go (split a k ns h) (member-cases m k ns p) (member-cases n k ns q) (λ c g r s. range_unique c ns g b m n r s i j)
    where
      both : Split a k ns → In b k → (x : ℕ) → member x ns ≡ true → In b x → ⊥
      both (inl (z, g)) s x r t = omega arith
      both (inr (z, g)) s x r t = omega (arith, range-above (a + size k) ns g b x r t)

      go : Split a k ns → (m ≡ k) ⊎ (member m ns ≡ true) → (n ≡ k) ⊎ (member n ns ≡ true)
          → ((c : ℕ) → consecutive w first size end c ns ≡ true → member m ns ≡ true → member n ns ≡ true → m ≡ n) → m ≡ n
      go s (inl e) (inl f) ih = e ∙ sym f
      go s (inl e) (inr f) ih = absurd (both s (rw e at i) n f j)
      go s (inr e) (inl f) ih = absurd (both s (rw f at j) m e i)
      go (inl (z, g)) (inr e) (inr f) ih = ih a g e f
      go (inr (z, g)) (inr e) (inr f) ih = ih (a + size k) g e f

  -- every number up to the end lies in one
  pub range-covers : (a : ℕ) (ns : List ℕ) → consecutive w first size end a ns ≡ true → (b : ℕ) → a ≤ b → b < end → Source (In b) ns
  unfolding consecutive
  range-covers a [] h b l u = absurd (omega (arith, same_true a end h))
  range-covers a (k ∷ ns) h b l u = go (split a k ns h) (λ c g r. source-there {P = In b} k ns (range-covers c ns g b r u))
    where
      here : first k ≡ a → Dec (b < a + size k) → (a + size k ≤ b → Source (In b) (k ∷ ns)) → Source (In b) (k ∷ ns)
      here e (yes r) ih = source-here {P = In b} k ns (omega arith, omega arith)
      here e (no r) ih = ih (omega arith)

      go : Split a k ns → ((c : ℕ) → consecutive w first size end c ns ≡ true → c ≤ b → Source (In b) (k ∷ ns)) → Source (In b) (k ∷ ns)
      go (inl (z, g)) ih = ih a g l
      go (inr (z, g)) ih = here z (dec_lt b (a + size k)) (ih (a + size k) g)
