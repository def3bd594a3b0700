-- The marked ones of some places, one place more at a time.
use mathlib.Core.Path.{◌≡◌, refl, sym, ap, ◌∙◌}
use mathlib.Core.Bool.{Bool, true, false, not, true≢false, false≢true}
use mathlib.Core.List.{List, [], ◌∷◌, ◌++◌, append-nil}
use Prim.Native.Nat.{ℕ, zero, suc, ◌+◌, ◌≤◌, ◌<◌}
use native.Mathlib.Numerals.{add-one}
use native.Mathlib.Omega.{arith}
use lib.ListN.{length, length-append}
use Rattle.lists.specs.Lists.{pick, word, from, range, keep}
use Rattle.lists.proofs.Ranges.{from-snoc, from-length}
use Rattle.lists.proofs.Members.{keep_append}
use Rattle.lists.proofs.Ascending.{element-below}
use Rattle.lists.proofs.Positions.{from-ascends, keep-ascends}
use Rattle.readback.specs.Inner.Hits.{token, hits, FoundOf, OneMore}
use Rattle.readback.specs.declared.found.Found.{Found}

module _ (m : List ℕ) (start : ℕ) where
  pub hits-none : hits m start 0 ≡ []
  unfolding hits keep from
  hits-none = refl

  keep-last : (p : ℕ → Bool) (xs : List ℕ) (i : ℕ) → keep p (xs ++ (i ∷ [])) ≡ pick (p i) (keep p xs ++ (i ∷ [])) (keep p xs)
  unfolding keep
  keep-last p xs i = keep_append p xs (i ∷ []) ∙ go (p i)
    where
      go : (b : Bool) → keep p xs ++ pick b (i ∷ []) [] ≡ pick b (keep p xs ++ (i ∷ [])) (keep p xs)
      go true = refl
      go false = append-nil (keep p xs)

  pub hits_more : (i : ℕ) → hits m start (i + 1) ≡ pick (token m (start + i)) (hits m start i ++ (i ∷ [])) (hits m start i)
  unfolding hits
  hits_more i =
      let e : 0 + i ≡ i = omega arith in
      ap (keep (λ k. token m (start + k))) (ap (from 0) (add-one i) ∙ rw e at (from-snoc 0 i)) ∙ keep-last (λ k. token m (start + k)) (range i) i

  keep-few : (p : ℕ → Bool) (xs : List ℕ) → length (keep p xs) ≤ length xs
  unfolding keep
  keep-few p [] = omega arith
  keep-few p (x ∷ xs) = go (p x) (keep-few p xs)
    where
      go : (b : Bool) → length (keep p xs) ≤ length xs → length (pick b (x ∷ keep p xs) (keep p xs)) ≤ suc (length xs)
      go true h = omega arith
      go false h = omega arith

  pub hits_few : (n : ℕ) → length (hits m start n) ≤ n
  unfolding hits
  hits_few n = omega (arith, keep-few (λ k. token m (start + k)) (range n), from-length 0 n)

  -- the first of them is one of the places
  pub hits-below : (n : ℕ) → (length (hits m start n) ≡ 0 → ⊥) → word (hits m start n) 0 < n
  unfolding hits
  hits-below n h =
      element-below n 0 (hits m start n) (keep-ascends (λ k. token m (start + k)) n 0 (range n) (from-ascends 0 n n (omega arith))) 0
      (some-length (length (hits m start n)) h)
    where
      some-length : (k : ℕ) → (k ≡ 0 → ⊥) → 0 < k
      some-length zero e = absurd (e refl)
      some-length (suc k) e = omega arith

-- the first of a list with one more at its end
first-empty : (hs : List ℕ) (i : ℕ) → length hs ≡ 0 → word (hs ++ (i ∷ [])) 0 ≡ i
first-empty [] i h = refl
first-empty (x ∷ xs) i h = absurd (omega arith)

first-kept : (hs : List ℕ) (i : ℕ) → (length hs ≡ 0 → ⊥) → word (hs ++ (i ∷ [])) 0 ≡ word hs 0
first-kept [] i h = absurd (h refl)
first-kept (x ∷ xs) i h = refl

module _ (f : Found) (i : ℕ) (b : Bool) where
  pub more-skip : not b ≡ true → OneMore f i b f
  more-skip h hs g = go b h
    where
      go : (b : Bool) → not b ≡ true → FoundOf (pick b (hs ++ (i ∷ [])) hs) f
      go true h = absurd (false≢true h)
      go false h = g

  pub more-first : not b ≡ false → f.count ≡ 0 → OneMore f i b (record { count = 1; first = i })
  more-first h z hs g = go b h
    where
      go : (b : Bool) → not b ≡ false → FoundOf (pick b (hs ++ (i ∷ [])) hs) (record { count = 1; first = i })
      go true h = record {
        count-is = rw (length-append hs (i ∷ [])) (omega (arith, g.count-is, z));
        first-is = sym (first-empty hs i (sym g.count-is ∙ z));
      }
      go false h = absurd (true≢false h)

  pub more-next : not b ≡ false → (f.count ≡ 0 → ⊥) → OneMore f i b (record { count = f.count + 1; first = f.first })
  more-next h z hs g = go b h
    where
      go : (b : Bool) → not b ≡ false → FoundOf (pick b (hs ++ (i ∷ [])) hs) (record { count = f.count + 1; first = f.first })
      go true h = record {
        count-is = rw (length-append hs (i ∷ [])) (omega (arith, g.count-is));
        first-is = g.first-is ∙ sym (first-kept hs i (λ q. z (g.count-is ∙ q)));
      }
      go false h = absurd (true≢false h)
