-- Transitions that follow one another: their arcs as one list with masks, and one turn of the loop that writes them.
use mathlib.Core.Path.{◌≡◌, refl, sym, ap, ◌∙◌}
use mathlib.Core.Bool.{Bool, true, false}
use mathlib.Core.List.{List, [], ◌∷◌, ◌++◌, map}
use mathlib.Core.Logic.{◌⊎◌, inl, inr}
use Prim.Native.Nat.{ℕ, zero, suc, ◌+◌, ◌-◌, ◌≤◌, ◌<◌}
use native.Mathlib.Omega.{arith}
use native.Mathlib.Nat.{mod-eq_of_lt}
use lib.Bits.{bit_and, and_comm, and_zero_l, and_mask}
use lib.ListN.{length, get_or, take, drop, set, length-append, length-map, take-append-drop}
use lib.Seq.{slice, length-slice, length-take-le, take-append-le, get_or-take, take-take, drop-drop}
use Rattle.lists.specs.Lists.{pick, word, from, member}
use Rattle.lists.proofs.Members.{member-get_or, append-member, map-append}
use Rattle.lists.proofs.Slices.{slice-step, slice-none, lent-part}
use Rattle.net.specs.Net.{Transition}
use Rattle.builder.specs.Inner.Writing.{writes, Heads, heads, put_one_transition, put_all, Inside, mask_of, rise, sums, Steady}
use Rattle.builder.specs.Inner.Parts.{ins_of, outs_of, Short, risen}
use Rattle.builder.specs.declared.write.Arcs.{Arcs}
use Rattle.builder.proofs.Writing.{writes-append, writes-behind, one-room}
use Rattle.builder.proofs.Turns.{turns-done, turn_inside, turn_more}

-- ---- numbers with masks beside them

pub sums_at : (t : ℕ) (xs ss : List ℕ) (i : ℕ) → i < length xs → i < length ss → get_or (sums t xs ss) i 0 ≡ get_or xs i 0 + bit_and (get_or ss i 0) t
unfolding sums
sums_at t [] ss i h k = absurd (omega arith)
sums_at t (x ∷ xs) [] i h k = absurd (omega arith)
sums_at t (x ∷ xs) (s ∷ ss) zero h k = refl
sums_at t (x ∷ xs) (s ∷ ss) (suc i) h k = sums_at t xs ss i (omega arith) (omega arith)

pub sums-length : (t : ℕ) (xs ss : List ℕ) → length xs ≡ length ss → length (sums t xs ss) ≡ length xs
unfolding sums
sums-length t [] ss e = refl
sums-length t (x ∷ xs) [] e = absurd (omega arith)
sums-length t (x ∷ xs) (s ∷ ss) e = ap suc (sums-length t xs ss (omega arith))

-- four words at once
pub four-written : (out : List ℕ) (k : ℕ) (xs : List ℕ) (i a b c d : ℕ) → i + 4 ≤ length xs → a ≡ get_or xs i 0 → b ≡ get_or xs (i + 1) 0
    → c ≡ get_or xs (i + 2) 0 → d ≡ get_or xs (i + 3) 0
    → set (set (set (set out k a) (k + 1) b) (k + 2) c) (k + 3) d ≡ writes out k (slice i (i + 4) xs)
unfolding writes
four-written out k xs i a b c d h ea eb ec ed =
    let i2 : i + 1 + 1 ≡ i + 2 = omega arith in
    let i3 : i + 2 + 1 ≡ i + 3 = omega arith in
    let i4 : i + 3 + 1 ≡ i + 4 = omega arith in
    let k2 : k + 1 + 1 ≡ k + 2 = omega arith in
    let k3 : k + 2 + 1 ≡ k + 3 = omega arith in
    let s3 : slice (i + 3) (i + 4) xs ≡ d ∷ [] =
    slice-step xs (i + 3) (i + 4) (omega arith) h ∙ rw (i4, ← ed, slice-none xs (i + 4) (i + 4) (omega arith)) in
    let s2 : slice (i + 2) (i + 4) xs ≡ c ∷ d ∷ [] = slice-step xs (i + 2) (i + 4) (omega arith) h ∙ rw (i3, ← ec, s3) in
    let s1 : slice (i + 1) (i + 4) xs ≡ b ∷ c ∷ d ∷ [] = slice-step xs (i + 1) (i + 4) (omega arith) h ∙ rw (i2, ← eb, s2) in
    let s0 : slice i (i + 4) xs ≡ a ∷ b ∷ c ∷ d ∷ [] = slice-step xs i (i + 4) (omega arith) h ∙ rw (← ea, s1) in
    rw (s0, k2, k3)

-- words in two parts
slice-parts : (xs : List ℕ) (i m e : ℕ) → i ≤ m → m ≤ e → e ≤ length xs → slice i e xs ≡ slice i m xs ++ slice m e xs
slice-parts xs i m e h k l =
    sym (take-append-drop (m - i) (slice i e xs)) ∙ rw (front, back)
  where
    front : take (m - i) (slice i e xs) ≡ slice i m xs
    front =
        let a : i + (m - i) ≡ m = omega arith in
        lent-part (take e xs) i (m - i) ∙ rw a (ap (drop i) (take-take m e xs k))

    back : drop (m - i) (slice i e xs) ≡ slice m e xs
    back = let a : i + (m - i) ≡ m = omega arith in drop-drop (m - i) i (take e xs) ∙ rw a

pub parts-written : (out : List ℕ) (at : ℕ) (xs : List ℕ) (i m e : ℕ) → i ≤ m → m ≤ e → e ≤ length xs → (after : List ℕ)
    → after ≡ writes out (at + i) (slice i m xs) → writes out (at + i) (slice i e xs) ≡ writes after (at + m) (slice m e xs)
parts-written out at xs i m e h k l after q =
    let n : length (slice i m xs) ≡ m - i = length-slice i m xs (omega arith) in
    let a : at + i + length (slice i m xs) ≡ at + m = omega arith in
    rw (slice-parts xs i m e h k l, writes-append out (at + i) (slice i m xs) (slice m e xs), a, ← q)

masked : (t : ℕ) → t < 4294967296 → (b : Bool) → bit_and (pick b 4294967295 0) t ≡ pick b t 0
masked t h true = and_comm 4294967295 t ∙ and_mask t 32 ∙ mod-eq_of_lt h
masked t h false = and_zero_l t

sums-map : (t : ℕ) → t < 4294967296 → (ms xs : List ℕ) → sums t xs (map (mask_of ms) xs) ≡ map (rise ms t) xs
unfolding sums rise mask_of
sums-map t h ms [] = refl
sums-map t h ms (x ∷ xs) = rw (masked t h (member x ms), sums-map t h ms xs)

pub take-map : (f : ℕ → ℕ) (n : ℕ) (xs : List ℕ) → take n (map f xs) ≡ map f (take n xs)
take-map f zero xs = refl
take-map f (suc n) [] = refl
take-map f (suc n) (x ∷ xs) = ap (λ (l : List ℕ). f x ∷ l) (take-map f n xs)

-- the masks of a list found one after the other
pub masks-more : (f : ℕ → ℕ) (xs ss : List ℕ) (k s : ℕ) → k < length ss → k < length xs → s ≡ f (get_or xs k 0) → take k ss ≡ map f (take k xs)
    → take (k + 1) (set ss k s) ≡ map f (take (k + 1) xs)
masks-more f (x ∷ xs) (y ∷ ss) zero s h l e g = rw e
masks-more f (x ∷ xs) (y ∷ ss) (suc k) s h l e g =
    let t : ◌≡◌ {A = List ℕ} (take k ss) (map f (take k xs)) = cc in
    let y-is : y ≡ f x = cc in
    let n : suc k + 1 ≡ suc (k + 1) = omega arith in
    rw (n, y-is, masks-more f xs ss k s (omega arith) (omega arith) e t)
masks-more f [] ss k s h l e g = absurd (omega arith)
masks-more f (x ∷ xs) [] k s h l e g = absurd (omega arith)

whole : (n : ℕ) (xs : List ℕ) → length xs ≡ n → take n xs ≡ xs
whole zero [] e = refl
whole zero (x ∷ xs) e = absurd (omega arith)
whole (suc n) [] e = absurd (omega arith)
whole (suc n) (x ∷ xs) e = ap (λ (l : List ℕ). x ∷ l) (whole n xs (omega arith))

pub masks-done : (f : ℕ → ℕ) (xs ss : List ℕ) (k : ℕ) → length ss ≡ k → length xs ≡ k → take k ss ≡ map f (take k xs) → ss ≡ map f xs
masks-done f xs ss k h l g = sym (whole k ss h) ∙ g ∙ ap (map f) (whole k xs l)

-- ---- the arcs of a transition in one list

ins-size : (arcs : Arcs) → Short arcs → length (ins_of arcs) ≡ arcs.inputs
ins-size arcs short = length-take-le arcs.inputs arcs.ins (omega (arith, short.ins-eight, short.ins-fit))

outs-size : (arcs : Arcs) → Short arcs → length (outs_of arcs) ≡ arcs.outputs
outs-size arcs short = length-take-le arcs.outputs arcs.outs (omega (arith, short.outs-eight, short.outs-fit))

-- the first words of a list are the inputs, then the outputs, and their masks stand beside them
pub record Merged (arcs : Arcs) (ms list masks : List ℕ) (size : ℕ) : Type 0 where
  pub short : Short arcs
  pub few : size ≤ 16
  pub size_is : length (ins_of arcs ++ outs_of arcs) ≡ size
  pub long : size ≤ length list
  pub first : take size list ≡ ins_of arcs ++ outs_of arcs
  pub marks : masks ≡ map (mask_of ms) list

-- two lists written one behind the other
pub merge : (arcs : Arcs) (ms zeros l1 l2 masks : List ℕ) (middle size : ℕ) → Short arcs → length zeros ≡ 16 → l1 ≡ writes zeros 0 (ins_of arcs)
    → middle ≡ 0 + arcs.inputs → l2 ≡ writes l1 middle (outs_of arcs) → size ≡ middle + arcs.outputs → masks ≡ map (mask_of ms) l2
    → Merged arcs ms l2 masks size
merge arcs ms zeros l1 l2 masks middle size short sixteen one mid two end marks = record {
  short = short;
  few = few;
  size_is = all-size;
  long = omega (arith, ap (λ (l : List ℕ). length l) list-is, length-append all (drop (length all) zeros), all-size);
  first = rw (list-is, ← all-size)
      (take-append-le (length all) all (drop (length all) zeros) (omega arith) ∙ whole (length all) all refl);
  marks = marks;
}
  where
    all : List ℕ
    all = ins_of arcs ++ outs_of arcs

    all-size : length (ins_of arcs ++ outs_of arcs) ≡ size
    all-size = omega (arith, length-append (ins_of arcs) (outs_of arcs), ins-size arcs short, outs-size arcs short, mid, end)

    few : size ≤ 16
    few = omega (arith, mid, end, short.ins-fit, short.outs-fit)

    list-is : l2 ≡ (ins_of arcs ++ outs_of arcs) ++ drop (length (ins_of arcs ++ outs_of arcs)) zeros
    list-is =
        let e : middle ≡ 0 + length (ins_of arcs) = omega (arith, ins-size arcs short, mid) in
        two ∙ rw (one, e) (sym (writes-append zeros 0 (ins_of arcs) (outs_of arcs)))
        ∙ writes-behind [] zeros (ins_of arcs ++ outs_of arcs) 0 refl (omega (arith, all-size, few))

module _ (arcs : Arcs) (ms list masks : List ℕ) (size : ℕ) (joined : Merged arcs ms list masks size) where
  pub steady : Steady list masks size
  steady = record {
    enough = joined.long;
    beside = sym (rw joined.marks (length-map list (mask_of ms)));
    small = small;
  }
    where
      each : (x : ℕ) → (member x (ins_of arcs) ≡ true) ⊎ (member x (outs_of arcs) ≡ true) → x < 65536
      each x (inl m) = joined.short.ins-small x m
      each x (inr m) = joined.short.outs-small x m

      small : (i : ℕ) → i < size → word list i < 65536
      small i h =
          let xs = ins_of arcs ++ outs_of arcs in
          let m : member (get_or xs i 0) xs ≡ true = member-get_or xs i (omega (arith, joined.size_is)) in
          let e : get_or xs i 0 ≡ word list i = ap (λ (l : List ℕ). get_or l i 0) (sym joined.first) ∙ get_or-take size list i 0 h in
          omega (arith, each (get_or xs i 0) (append-member (get_or xs i 0) (ins_of arcs) (outs_of arcs) m))

  -- what is written for transition t
  written : (t : ℕ) → t < 4294967296 → take size (sums t list masks) ≡ map (rise ms t) (ins_of arcs) ++ map (rise ms t) (outs_of arcs)
  written t h =
      rw (joined.marks, sums-map t h ms list, take-map (rise ms t) size list, joined.first) (map-append (rise ms t) (ins_of arcs) (outs_of arcs))

  arcs-number : (t : ℕ) → length (map (rise ms t) (ins_of arcs) ++ map (rise ms t) (outs_of arcs)) ≡ size
  arcs-number t =
      ap (λ (l : List ℕ). length l) (sym (map-append (rise ms t) (ins_of arcs) (outs_of arcs)))
      ∙ length-map (ins_of arcs ++ outs_of arcs) (rise ms t) ∙ joined.size_is

  module _ (kind x y : ℕ) where
    abbrev each : ℕ → Transition
    each = risen kind x y arcs ms

    module _ (all_of s : Heads) (t count : ℕ) (left : all_of ≡ put_all each s (from t (count - t))) where
      pub series-done : count ≤ t → s ≡ all_of
      series-done h = turns-done each all_of s t count left h

      module _ (h : t < count) where
        pub series-inside : Inside all_of → Inside (put_one_transition s (each t))
        series-inside k = turn_inside each all_of s t count left h (each t) refl k

        pub series-room : Inside all_of → (s.place + 6 ≤ length s.out) × (s.arc + size ≤ length s.out) × (s.arc < 4294967296)
        series-room k =
            let i = series-inside k in
            let r = one-room s (each t) i in
            (r.0, omega (arith, r.1, arcs-number t), omega (arith, i.arc-small))

        pub series-more : (o1 o2 : List ℕ) (arc : ℕ) → o1 ≡ writes s.out s.place (kind ∷ x ∷ y ∷ s.arc ∷ arcs.inputs ∷ arcs.outputs ∷ [])
            → o2 ≡ writes o1 s.arc (take size (sums t list masks)) → arc ≡ s.arc + size → t < 4294967296
            → all_of ≡ put_all each (heads o2 (s.place + 6) arc) (from (t + 1) (count - (t + 1)))
        series-more o1 o2 arc e f g small =
            let b : length (map (rise ms t) (ins_of arcs)) ≡ arcs.inputs = length-map (ins_of arcs) (rise ms t) ∙ ins-size arcs joined.short in
            let d : length (map (rise ms t) (outs_of arcs)) ≡ arcs.outputs = length-map (outs_of arcs) (rise ms t) ∙ outs-size arcs joined.short in
            let n : arc ≡ s.arc + length (map (rise ms t) (ins_of arcs) ++ map (rise ms t) (outs_of arcs)) = omega (arith, g, arcs-number t) in
            let o : o2 ≡ (put_one_transition s (each t)).out = rw (f, e, written t small, b, d) in
            turn_more each all_of s t count left h (each t) refl (heads o2 (s.place + 6) arc)
            (ap (λ (l : List ℕ). heads l (s.place + 6) arc) o ∙ ap (λ (k : ℕ). heads (put_one_transition s (each t)).out (s.place + 6) k) n)
