-- One turn of the loops that write words.
use mathlib.Core.Path.{◌≡◌, sym, ap, ◌∙◌}
use mathlib.Core.List.{List, [], ◌∷◌, ◌++◌}
use Prim.Native.Nat.{ℕ, suc, ◌+◌, ◌-◌, ◌≤◌, ◌<◌}
use native.Mathlib.Omega.{arith}
use lib.ListN.{length, get_or, take, set, length-append}
use lib.Seq.{slice, length-take-le}
use Rattle.lists.specs.Lists.{from}
use Rattle.lists.proofs.Slices.{slice-step, slice-none}
use Rattle.builder.specs.Inner.Writing.{writes, heads, put_one_transition}
use Rattle.builder.specs.Inner.Parts.{arrow}
use Rattle.builder.proofs.Writing.{writes_one, writes-none, writes-append}

-- words of a list
pub part-more : (out list : List ℕ) (at i e : ℕ) → i < e → e ≤ length list
    → writes out (at + i) (slice i e list) ≡ writes (set out (at + i) (get_or list i 0)) (at + (i + 1)) (slice (i + 1) e list)
part-more out list at i e h k =
    let n : at + i + 1 ≡ at + (i + 1) = omega arith in
    rw (slice-step list i e h k) (writes_one out (at + i) (get_or list i 0) (slice (i + 1) e list) ∙ rw n)

pub part-done : (out list : List ℕ) (at i e : ℕ) → e ≤ i → writes out (at + i) (slice i e list) ≡ out
part-done out list at i e h = rw (slice-none list i e h) (writes-none out (at + i))

-- numbers upward
pub up_more : (out : List ℕ) (at first i e : ℕ) → i < e
    → writes out (at + i) (from (first + i) (e - i)) ≡ writes (set out (at + i) (first + i)) (at + (i + 1)) (from (first + (i + 1)) (e - (i + 1)))
unfolding from
up_more out at first i e h =
    let n : e - i ≡ suc (e - (i + 1)) = omega arith in
    let a : first + i + 1 ≡ first + (i + 1) = omega arith in
    let b : at + i + 1 ≡ at + (i + 1) = omega arith in
    rw n (writes_one out (at + i) (first + i) (from (first + i + 1) (e - (i + 1))) ∙ rw (a, b))

pub up_done : (out : List ℕ) (at first i e : ℕ) → e ≤ i → writes out (at + i) (from (first + i) (e - i)) ≡ out
unfolding from
up_done out at first i e h = let n : e - i ≡ 0 = omega arith in rw n (writes-none out (at + i))

-- ---- a record and its arcs

-- words one after the other, each at its place
pub six : (out : List ℕ) (p k a b s i o : ℕ)
    → set (set (set (set (set (set out p k) (p + 1) a) (p + 2) b) (p + 3) s) (p + 4) i) (p + 5) o ≡ writes out p (k ∷ a ∷ b ∷ s ∷ i ∷ o ∷ [])
unfolding writes
six out p k a b s i o =
    let e2 : p + 1 + 1 ≡ p + 2 = omega arith in
    let e3 : p + 2 + 1 ≡ p + 3 = omega arith in
    let e4 : p + 3 + 1 ≡ p + 4 = omega arith in
    let e5 : p + 4 + 1 ≡ p + 5 = omega arith in
    rw (e2, e3, e4, e5)

pub arcs-size : (ins outs : List ℕ) (i o : ℕ) → i ≤ length ins → o ≤ length outs → length (take i ins ++ take o outs) ≡ i + o
arcs-size ins outs i o h k = length-append (take i ins) (take o outs) ∙ rw (length-take-le i ins h, length-take-le o outs k)

pub put-arrow : (out ins outs o6 w1 w2 : List ℕ) (place arc kind a b i o middle end : ℕ) → i ≤ length ins → o ≤ length outs
    → o6 ≡ writes out place (kind ∷ a ∷ b ∷ arc ∷ i ∷ o ∷ []) → w1 ≡ writes o6 arc (take i ins) → middle ≡ arc + i
    → w2 ≡ writes w1 middle (take o outs) → end ≡ middle + o
    → heads w2 (place + 6) end ≡ put_one_transition (heads out place arc) (arrow kind a b (take i ins) (take o outs))
put-arrow out ins outs o6 w1 w2 place arc kind a b i o middle end hi ho e f1 m f2 n =
    let li : length (take i ins) ≡ i = length-take-le i ins hi in
    let lo : length (take o outs) ≡ o = length-take-le o outs ho in
    let r : o6 ≡ writes out place (kind ∷ a ∷ b ∷ arc ∷ length (take i ins) ∷ length (take o outs) ∷ []) = rw (e, li, lo) in
    let w : w2 ≡ writes (writes out place (kind ∷ a ∷ b ∷ arc ∷ length (take i ins) ∷ length (take o outs) ∷ [])) arc (take i ins ++ take o outs) =
    f2 ∙ ap (λ (l : List ℕ). writes l middle (take o outs)) (f1 ∙ ap (λ (l : List ℕ). writes l arc (take i ins)) r)
    ∙ ap (λ (k : ℕ). writes (writes (writes out place (kind ∷ a ∷ b ∷ arc ∷ length (take i ins) ∷ length (take o outs) ∷ [])) arc (take i ins)) k (take o outs))
    (m ∙ ap (λ (k : ℕ). arc + k) (sym li))
    ∙ sym (writes-append (writes out place (kind ∷ a ∷ b ∷ arc ∷ length (take i ins) ∷ length (take o outs) ∷ [])) arc (take i ins) (take o outs)) in
    let z : end ≡ arc + length (take i ins ++ take o outs) = omega (arith, arcs-size ins outs i o hi ho) in
    ap (λ (l : List ℕ). heads l (place + 6) end) w
    ∙ ap (λ (k : ℕ). heads (writes (writes out place (kind ∷ a ∷ b ∷ arc ∷ length (take i ins) ∷ length (take o outs) ∷ [])) arc (take i ins ++ take o outs)) (place + 6) k) z
