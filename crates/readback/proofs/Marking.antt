-- Marks put at the places of a list: one more, none, two lists, and which words they leave.
use mathlib.Core.Path.{◌≡◌, refl, sym, ◌∙◌}
use mathlib.Core.Bool.{Bool, true, false, ◌||◌}
use mathlib.Core.List.{List, [], ◌∷◌, ◌++◌}
use Prim.Native.Nat.{ℕ, zero, suc, min, ◌+◌, ◌-◌, ◌≤◌, ◌<◌}
use native.Mathlib.Decide.{ℕ_discrete}
use native.Mathlib.Omega.{arith}
use lib.ListN.{length, set, take, length-set}
use lib.Seq.{slice, get_or-set_same, get_or-set_other}
use Rattle.lists.specs.Lists.{pick, same, word, from, member}
use Rattle.lists.proofs.Tests.{same_self, same-no}
use Rattle.scheme.specs.Words.{first_formal, formal_count, formals, node_first}
use Rattle.net.specs.Firing.{put}

pub put-append : (v : ℕ) (m xs ys : List ℕ) → put v m (xs ++ ys) ≡ put v (put v m xs) ys
unfolding put
put-append v m [] ys = refl
put-append v m (x ∷ xs) ys = put-append v (set m x v) xs ys

-- ---- numbers in a row

shift-more : (first i e : ℕ) → i < e → from (first + i) (e - i) ≡ (first + i) ∷ from (first + (i + 1)) (e - (i + 1))
unfolding from
shift-more first i e h =
    let q : e - i ≡ suc (e - (i + 1)) = omega arith in
    let r : first + (i + 1) ≡ first + i + 1 = omega arith in
    rw (q, r)

pub span_more : (v : ℕ) (m : List ℕ) (first i e : ℕ) → i < e
    → put v m (from (first + i) (e - i)) ≡ put v (set m (first + i) v) (from (first + (i + 1)) (e - (i + 1)))
unfolding put
span_more v m first i e h = rw (shift-more first i e h)

pub span-done : (v : ℕ) (m : List ℕ) (first i e : ℕ) → e ≤ i → put v m (from (first + i) (e - i)) ≡ m
unfolding put from
span-done v m first i e h = let q : e - i ≡ 0 = omega arith in rw q

pub span-start : (first e : ℕ) → from first e ≡ from (first + 0) (e - 0)
span-start first e = let q : e - 0 ≡ e = omega arith in let r : first + 0 ≡ first = omega arith in rw (q, r)

-- ---- the first of some numbers in a row

take-from : (k a n : ℕ) → take k (from a n) ≡ from a (min k n)
unfolding from
take-from zero a zero = refl
take-from zero a (suc n) = let q : min 0 (suc n) ≡ 0 = omega arith in rw q
take-from (suc k) a zero = let q : min (suc k) 0 ≡ 0 = omega arith in rw q
take-from (suc k) a (suc n) = let q : min (suc k) (suc n) ≡ suc (min k n) = omega arith in rw (take-from k (a + 1) n, q)

pub formals_from : (w : List ℕ) (d k first count : ℕ) → first ≡ first_formal w d → count ≡ min k (formal_count w d)
    → from first count ≡ take k (formals w d)
unfolding formals
formals_from w d k first count e f = rw (e, f) (sym (take-from k (first_formal w d) (formal_count w d)))

-- ---- the words left

length-put : (v : ℕ) (m xs : List ℕ) → length (put v m xs) ≡ length m
unfolding put
length-put v m [] = refl
length-put v m (x ∷ xs) = length-put v (set m x v) xs ∙ length-set m x v

pub put_word : (xs m : List ℕ) (x : ℕ) → x < length m → word (put 1 m xs) x ≡ pick (member x xs) 1 (word m x)
unfolding put member
put_word [] m x h = refl
put_word (y ∷ ys) m x h = put_word ys (set m y 1) x (rw (length-set m y 1) h) ∙ go (ℕ_discrete x y)
  where
    both : (b : Bool) → pick {A = ℕ} b 1 1 ≡ 1
    both true = refl
    both false = refl

    go : Dec (x ≡ y) → pick (member x ys) 1 (word (set m y 1) x) ≡ pick (same x y || member x ys) 1 (word m x)
    go (yes q) = rw (q, same_self y, get_or-set_same m y 1 0 (rw q at h)) (both (member y ys))
    go (no d) = rw (same-no x y d, get_or-set_other m y x 1 0 d)

-- the names held in a call's chain
pub call-marked : (w names held₀ held₁ held₂ : List ℕ) (node index count d f first l₁ k l₂ : ℕ) → d ≡ node_first w node
    → f ≡ formal_count w d → first ≡ first_formal w d
    → l₁ ≡ index - 1 → k ≡ min l₁ f → l₂ ≡ index - (1 + f) → held₁ ≡ put 1 held₀ (from first k) → held₂ ≡ put 1 held₁ (slice l₂ count names)
    → held₂ ≡ put 1 held₀ (take (index - 1) (formals w (node_first w node)) ++ slice (index - (1 + formal_count w (node_first w node))) count names)
call-marked w names held₀ held₁ held₂ node index count d f first l₁ k l₂ d-is f-is first-is l-is k-is m-is one two =
    two
    ∙ rw (one, m-is, formals_from w d (index - 1) first k first-is (k-is ∙ rw (l-is, f-is)), f-is, d-is)
    (sym (put-append 1 held₀ (take (index - 1) (formals w (node_first w node))) (slice (index - (1 + formal_count w (node_first w node))) count names)))
