-- What chains of iterators give, in the words of `specs/`.
use Rattle.std.proofs.Common.{◌≡◌, ℕ, zero, suc, ◌+◌, ◌<◌, ◌≤◌, Bool, true, false, List, [], ◌∷◌, filter, length, fold, sum, Option, option_map, slice_get, sym, refl, ap, ◌∙◌, arith}
use Rattle.std.proofs.lemmas.Iterator.Adapters.{option_map_id}
use Rattle.std.proofs.lemmas.Option.{unwrap_or-slice_get}
use Rattle.std.specs.Option.{unwrap_or}
use Rattle.std.specs.List.{range_with_len}
use Rattle.lists.specs.Lists.{pick, word, from, keep, total}
use Rattle.lists.proofs.Chains.{from_counted}

pub keep_filter : (p : ℕ → Bool) (xs : List ℕ) → keep p xs ≡ filter p xs
unfolding keep
keep_filter p [] = refl
keep_filter p (x ∷ xs) = go (p x) refl (keep_filter p xs)
  where
    go : (b : Bool) → p x ≡ b → keep p xs ≡ filter p xs → keep p (x ∷ xs) ≡ filter p (x ∷ xs)
    go true e ih = rw (e, ih)
    go false e ih = rw (e, ih)

pub kept_count : (p : ℕ → Bool) (a n : ℕ) → length (filter p (range_with_len a n)) ≡ length (keep p (from a n))
kept_count p a n = rw (← from_counted a n, ← keep_filter p (from a n))

-- number k of the numbers that pass, 0 past them
pub kept_nth : (p : ℕ → Bool) (a n k : ℕ) (r : Option ℕ) → option_map (λ x. x) r ≡ slice_get (filter p (range_with_len a n)) k
    → unwrap_or r 0 ≡ word (keep p (from a n)) k
kept_nth p a n k r e =
    ap (λ (o : Option ℕ). unwrap_or o 0) (sym (option_map_id r) ∙ e) ∙ rw (← from_counted a n, ← keep_filter p (from a n)) (unwrap_or-slice_get (keep p (from a n)) k 0)

-- a word of numbers below b is below b
pub word-below : (p : ℕ → Bool) (b a n k : ℕ) → 0 < b → a + n ≤ b → word (keep p (from a n)) k < b
unfolding keep from
word-below p b a zero k l h = l
word-below p b a (suc n) k l h = go (p a) k (λ k. word-below p b (a + 1) n k l (omega arith))
  where
    go : (t : Bool) (k : ℕ) → ((k : ℕ) → word (keep p (from (a + 1) n)) k < b)
        → word (pick t (a ∷ keep p (from (a + 1) n)) (keep p (from (a + 1) n))) k < b
    go true zero ih = omega arith
    go true (suc k) ih = ih k
    go false k ih = ih k

summed : (a : ℕ) (xs : List ℕ) → fold ◌+◌ a xs ≡ a + total xs
unfolding total
summed a [] = omega arith
summed a (x ∷ xs) = summed (a + x) xs ∙ omega arith

pub total_sum : (xs : List ℕ) → total xs ≡ sum xs
total_sum xs = omega (arith, summed 0 xs)
