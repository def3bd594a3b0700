-- Laws of a run of stores: what stands before, in and behind it, runs one after another, and a run of values at the numbers below n.
use mathlib.Core.Path.{◌≡◌, refl, sym, ap, ◌∙◌}
use mathlib.Core.List.{List, [], ◌∷◌, ◌++◌, map, map-append, append_assoc}
use Prim.Native.Nat.{ℕ, zero, suc, ◌+◌, ◌≤◌, ◌<◌}
use native.Mathlib.Nat.{add-zero}
use native.Mathlib.Numerals.{add-one}
use native.Mathlib.Omega.{arith}
use lib.ListN.{length, set, take, drop, length-append, length-drop, length-map, get_or-append}
use lib.Seq.{sets, sets-eq, get_or-set_other, take-set-le, length-take-le, get_or-append-add, take_at, drop_at, drop-drop}
use Rattle.lists.specs.Lists.{word, from, range}
use Rattle.lists.proofs.Ranges.{from-length, from-snoc}

-- ---- a value at each of the numbers below n

word-map : (g : ℕ → ℕ) (a n i : ℕ) → i < n → word (map g (from a n)) i ≡ g (a + i)
unfolding from
word-map g a zero i h = absurd (omega arith)
word-map g a (suc n) zero h = let q : a ≡ a + 0 = omega arith in ap g q
word-map g a (suc n) (suc i) h = word-map g (a + 1) n i (omega arith) ∙ (let q : a + 1 + i ≡ a + suc i = omega arith in ap g q)

pub word-range : (g : ℕ → ℕ) (n i : ℕ) → i < n → word (map g (range n)) i ≡ g i
word-range g n i h = word-map g 0 n i h ∙ (let q : 0 + i ≡ i = omega arith in ap g q)

pub long-map : (g : ℕ → ℕ) (n : ℕ) → length (map g (range n)) ≡ n
long-map g n = length-map (range n) g ∙ from-length 0 n

-- ---- a run of stores

pub take-sets : (n : ℕ) (vs l : List ℕ) (i : ℕ) → n ≤ i → take n (sets l i vs) ≡ take n l
take-sets n [] l i h = refl
take-sets n (a ∷ vs) l i h = take-sets n vs (set l i a) (suc i) (omega arith) ∙ take-set-le n l i a h

pub word_in : (l : List ℕ) (i : ℕ) (ws : List ℕ) (k : ℕ) → i + length ws ≤ length l → k < length ws → word (sets l i ws) (i + k) ≡ word ws k
word_in l i ws k h u =
    let t : length (take i l) ≡ i = length-take-le i l (omega arith) in
    ap (λ (r : List ℕ). word r (i + k)) (sets-eq ws l i h)
    ∙ get_or-append (take i l ++ ws) (drop (i + length ws) l) 0 (i + k) (omega (arith, length-append (take i l) ws))
    ∙ ap (λ (m : ℕ). word (take i l ++ ws) (m + k)) (sym t)
    ∙ get_or-append-add (take i l) ws k 0

pub word_low : (l : List ℕ) (i : ℕ) (ws : List ℕ) (k : ℕ) → k < i → word (sets l i ws) k ≡ word l k
word_low l i [] k h = refl
word_low l i (a ∷ ws) k h = word_low (set l i a) (suc i) ws k (omega arith) ∙ get_or-set_other l i k a 0 (λ e. omega arith)

pub word-high : (l : List ℕ) (i : ℕ) (ws : List ℕ) (k : ℕ) → i + length ws ≤ k → word (sets l i ws) k ≡ word l k
word-high l i [] k h = refl
word-high l i (a ∷ ws) k h = word-high (set l i a) (suc i) ws k (omega arith) ∙ get_or-set_other l i k a 0 (λ e. omega arith)

pub sets-append : (l : List ℕ) (i : ℕ) (us vs : List ℕ) → sets l i (us ++ vs) ≡ sets (sets l i us) (i + length us) vs
sets-append l i [] vs = rw (add-zero i)
sets-append l i (a ∷ us) vs = sets-append (set l i a) (suc i) us vs ∙ (let e : suc i + length us ≡ i + suc (length us) = omega arith in rw e)

pub sets-snoc : (l : List ℕ) (i : ℕ) (vs : List ℕ) (a : ℕ) → sets l i (vs ++ (a ∷ [])) ≡ set (sets l i vs) (i + length vs) a
sets-snoc l i [] a = rw (add-zero i)
sets-snoc l i (v ∷ vs) a = sets-snoc (set l i v) (suc i) vs a ∙ (let q : suc i + length vs ≡ i + suc (length vs) = omega arith in rw q)

-- the words of the first n numbers are stored, and one more
pub store-more : (g : ℕ → ℕ) (lent : List ℕ) (a n : ℕ) (x : List ℕ) → x ≡ sets lent a (map g (range n)) → (v : ℕ) → v ≡ g n
    → set x (a + n) v ≡ sets lent a (map g (range (n + 1)))
store-more g lent a n x e v q =
    rw (add-one n, from-snoc 0 n, map-append g (range n) ((0 + n) ∷ []), sets-snoc lent a (map g (range n)) (g (0 + n)), long-map g n, ← e)
    (let z : 0 + n ≡ n = omega arith in rw (z, q))

-- the next part put behind those that stand already
module _ (p m x : List ℕ) (a k : ℕ) (long : length p ≡ a) where
  pub put_on : take a (p ++ drop a x) ++ (m ++ drop k (drop a (p ++ drop a x))) ≡ p ++ m ++ drop (a + k) x
  put_on = rw (take_at p (drop a x) a long, drop_at p (drop a x) a long, drop-drop k a x) (sym (append_assoc p m (drop (a + k) x)))

  pub store-on : length m ≡ k → a + k ≤ length x → sets (p ++ drop a x) a m ≡ p ++ m ++ drop (a + k) x
  store-on e h =
      let l : length (p ++ drop a x) ≡ length x = length-append p (drop a x) ∙ rw long (rw (length-drop a x) (omega arith)) in
      sets-eq m (p ++ drop a x) a (omega (arith, l)) ∙
      rw (take_at p (drop a x) a long, e, ← drop-drop k a (p ++ drop a x), drop_at p (drop a x) a long, drop-drop k a x)
