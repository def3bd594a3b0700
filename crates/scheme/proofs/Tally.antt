-- Laws of tallies: what a pass over a list of numbers leaves in the counts, and how a count tells none and once.
use mathlib.Core.Path.{◌≡◌, refl, sym, ap, ◌∙◌}
use mathlib.Core.List.{List, [], ◌∷◌, ◌++◌}
use Prim.Native.Nat.{ℕ, zero, suc, ◌+◌, ◌-◌, ◌≤◌, ◌<◌}
use native.Mathlib.Decide.{ℕ_discrete}
use native.Mathlib.Omega.{arith}
use lib.ListN.{length, replicate, length-set, length-replicate, get_or-replicate}
use lib.Seq.{get_or-set_same, get_or-set_other}
use Rattle.lists.specs.Lists.{pick, bit, same, word, from, flat, times}
use Rattle.lists.proofs.Tests.{same-no, same_self}
use Rattle.lists.proofs.Ranges.{from_more, from-done, flat-more, flat-done}
use Rattle.scheme.specs.Spans.{tallied, tally_all}

pub tally-append : (c xs ys : List ℕ) → tally_all c (xs ++ ys) ≡ tally_all (tally_all c xs) ys
unfolding tally_all
tally-append c [] ys = refl
tally-append c (x ∷ xs) ys = tally-append (tallied c x) xs ys

pub tally-one-more : (c xs : List ℕ) (x : ℕ) → tally_all c (xs ++ (x ∷ [])) ≡ tallied (tally_all c xs) x
unfolding tally_all
tally-one-more c xs x = tally-append c xs (x ∷ [])

pub tally-more : (c : List ℕ) (i e : ℕ) → i < e → tally_all c (from i (e - i)) ≡ tally_all (tallied c i) (from (i + 1) (e - (i + 1)))
unfolding tally_all
tally-more c i e h = rw (from_more i e h)

pub tally-done : (c : List ℕ) (i e : ℕ) → e ≤ i → tally_all c (from i (e - i)) ≡ c
unfolding tally_all
tally-done c i e h = rw (from-done i e h)

module _ (f : ℕ → List ℕ) where
  pub tally-flat-more : (c : List ℕ) (i e : ℕ) → i < e → tally_all c (flat f (from i (e - i))) ≡ tally_all (tally_all c (f i)) (flat f (from (i + 1) (e - (i + 1))))
  tally-flat-more c i e h = rw (flat-more f i e h) (tally-append c (f i) (flat f (from (i + 1) (e - (i + 1)))))

  pub tally-flat-done : (c : List ℕ) (i e : ℕ) → e ≤ i → tally_all c (flat f (from i (e - i))) ≡ c
  unfolding tally_all
  tally-flat-done c i e h = rw (flat-done f i e h)

pub length-tallied : (c : List ℕ) (x : ℕ) → length (tallied c x) ≡ length c
unfolding tallied
length-tallied c x = length-set c x (pick (same (word c x) 0) 1 2)

pub length-tally : (c xs : List ℕ) → length (tally_all c xs) ≡ length c
unfolding tally_all
length-tally c [] = refl
length-tally c (x ∷ xs) = length-tally (tallied c x) xs ∙ length-tallied c x

-- a count after t more
ups : ℕ → ℕ → ℕ
ups zero v = v
ups (suc t) v = ups t (pick (same v 0) 1 2)

word-tally : (c xs : List ℕ) (k : ℕ) → k < length c → word (tally_all c xs) k ≡ ups (times k xs) (word c k)
unfolding tally_all times ups tallied
word-tally c [] k h = refl
word-tally c (x ∷ xs) k h = word-tally (tallied c x) xs k (rw (length-tallied c x) h) ∙ go (ℕ_discrete k x)
  where
    go : Dec (k ≡ x) → ups (times k xs) (word (tallied c x) k) ≡ ups (bit (same k x) + times k xs) (word c k)
    go (yes p) = let q : 1 + times k xs ≡ suc (times k xs) = omega arith in rw (← p, same_self k, q, get_or-set_same c k (pick (same (word c k) 0) 1 2) 0 h)
    go (no d) = let q : 0 + times k xs ≡ times k xs = omega arith in rw (same-no k x d, q, get_or-set_other c x k (pick (same (word c x) 0) 1 2) 0 d)

ups-two : (t : ℕ) → ups t 2 ≡ 2
unfolding ups
ups-two zero = refl
ups-two (suc t) = rw (same-no 2 0 (λ e. let z : ◌≡◌ {A = ℕ} 2 0 = e in omega arith)) (ups-two t)

ups-none : (t : ℕ) → same (ups t 0) 0 ≡ same t 0
unfolding ups
ups-none zero = refl
ups-none (suc zero) = rw (same_self 0)
ups-none (suc (suc t)) =
    rw (same_self 0, same-no 1 0 (λ e. let z : ◌≡◌ {A = ℕ} 1 0 = e in omega arith), ups-two t, same-no 2 0 (λ e. let z : ◌≡◌ {A = ℕ} 2 0 = e in omega arith))
    (sym (same-no (suc (suc t)) 0 (λ e. let z : ◌≡◌ {A = ℕ} (suc (suc t)) 0 = e in omega arith)))

ups-once : (t : ℕ) → same (ups t 0) 1 ≡ same t 1
unfolding ups
ups-once zero = refl
ups-once (suc zero) = rw (same_self 0)
ups-once (suc (suc t)) =
    rw (same_self 0, same-no 1 0 (λ e. let z : ◌≡◌ {A = ℕ} 1 0 = e in omega arith), ups-two t, same-no 2 1 (λ e. let z : ◌≡◌ {A = ℕ} 2 1 = e in omega arith))
    (sym (same-no (suc (suc t)) 1 (λ e. let z : ◌≡◌ {A = ℕ} (suc (suc t)) 1 = e in omega arith)))

-- of counts that started at 0: none, and once
from_zero : (n : ℕ) (xs : List ℕ) (k : ℕ) → k < n → word (tally_all (replicate n 0) xs) k ≡ ups (times k xs) 0
from_zero n xs k h =
    word-tally (replicate n 0) xs k (rw (length-replicate {A = ℕ} n 0) h) ∙ ap (ups (times k xs)) (get_or-replicate n k 0 0 h)

pub tally-none : (n : ℕ) (xs : List ℕ) (k : ℕ) → k < n → same (word (tally_all (replicate n 0) xs) k) 0 ≡ same (times k xs) 0
tally-none n xs k h = rw (from_zero n xs k h) (ups-none (times k xs))

pub tally-once : (n : ℕ) (xs : List ℕ) (k : ℕ) → k < n → same (word (tally_all (replicate n 0) xs) k) 1 ≡ same (times k xs) 1
tally-once n xs k h = rw (from_zero n xs k h) (ups-once (times k xs))
