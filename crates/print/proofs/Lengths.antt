-- How long texts are: a number below 100,000 has at most five digits, so the listing of a net takes at most six bytes for each word of its image, and
-- thirty more.
use mathlib.Core.Path.{◌≡◌, sym, subst}
use mathlib.Core.Bool.{true}
use mathlib.Core.List.{List, [], ◌∷◌}
use Prim.Native.Nat.{ℕ, suc, ◌+◌, ◌*◌, ◌/◌, ◌≤◌, ◌<◌}
use native.Mathlib.Decide.{dec_le}
use native.Mathlib.Omega.{arith}
use lib.ListN.{length, get_or, length-append}
use Rattle.lists.specs.Lists.{word, from, range, flat, ascends}
use Rattle.lists.proofs.Ascending.{ascends-below, ascends-rest}
use Rattle.net.specs.Image.{Label, label_at, inputs_at, outputs_at}
use Rattle.net.specs.Net.{Transition, Net, blank, transition_at, arc_words, encode, is_ascending}
use Rattle.net.proofs.Encode as Encode
use Rattle.print.specs.Text.{decimal, numbers, spaced, refusal}
use Rattle.print.specs.Listing.{header_line, transition_line, listing}
use Rattle.print.specs.Inner.Parts.{label_text}
use Rattle.print.proofs.Decimal.{decimal-one, decimal-more}
use Rattle.print.proofs.Lines.{header-parts, line-parts, arcs-parts, refusal-parts}

-- ---- what holds of each element of a list

abbrev pub Each : {A : Type 0} → (A → Type 0) → List A → Type 0
Each P [] = Unit {0}
Each P (x ∷ xs) = P x × Each P xs

-- ---- numbers

digits_more : (b k : ℕ) → ((n : ℕ) → n < b → length (decimal n) ≤ k) → (n : ℕ) → n < b * 10 → length (decimal n) ≤ suc k
digits_more b k f n h = go (dec_le 10 n)
  where
    go : Dec (10 ≤ n) → length (decimal n) ≤ suc k
    go (yes l) = rw (decimal-more n l) (simp length-append (omega (arith, f (n / 10) (omega arith))))
    go (no l) = rw (decimal-one n (omega arith)) (omega arith)

digits-one : (n : ℕ) → n < 10 → length (decimal n) ≤ 1
digits-one n h = rw (decimal-one n h) (omega arith)

pub five-digits : (n : ℕ) → n < 100000 → length (decimal n) ≤ 5
five-digits = digits_more 10000 4 (digits_more 1000 3 (digits_more 100 2 (digits_more 10 1 digits-one)))

abbrev pub Small : ℕ → Type 0
Small n = n < 100000

numbers-length : (ns : List ℕ) → Each Small ns → length (flat spaced (numbers ns)) ≤ 6 * length ns
unfolding flat
numbers-length [] h = omega arith
numbers-length (n ∷ ns) h =
    omega (arith, length-append (decimal n) (flat spaced (numbers ns)), five-digits n h.0, numbers-length ns h.1)

ascends-small : (n lo : ℕ) (ns : List ℕ) → n ≤ 100000 → ascends n lo ns ≡ true → Each Small ns
ascends-small n lo [] l h = tt
ascends-small n lo (x ∷ xs) l h = (omega (arith, ascends-below n lo x xs h), ascends-small n (x + 1) xs l (ascends-rest n lo x xs h))

-- ---- a refusal

pub refusal-length : (number : ℕ) → Small number → length (refusal number) ≤ 14
refusal-length number h =
    rw (refusal-parts number) (omega (arith, length-append (decimal number) (10 ∷ []), five-digits number h))

-- ---- a line of the listing

abbrev pub SmallLabel : Label → Type 0
SmallLabel l = Small l.kind × Small l.a × Small l.b

label-length : (image : List ℕ) (k : ℕ) → SmallLabel (label_at image k) → length (label_text image k) ≤ 18
unfolding label_text
label-length image k h =
    let l = label_at image k in
    numbers-length (l.kind ∷ l.a ∷ l.b ∷ []) (h.0, (h.1, (h.2, tt)))

line-length : (image : List ℕ) (k : ℕ) → Small k → SmallLabel (label_at image k) → Each Small (inputs_at image k) → Each Small (outputs_at image k)
    → length (transition_line image k) ≤ 28 + 6 * (length (inputs_at image k) + length (outputs_at image k))
line-length image k h l i o =
    rw (line-parts image k, arcs-parts image k)
    (simp length-append (omega (arith, five-digits k h, label-length image k l, numbers-length (inputs_at image k) i, numbers-length (outputs_at image k) o)))

-- ---- the listing of a net

-- a list of lines, one for each transition
lines-length : (f : ℕ → List ℕ) (i : ℕ) (ts : List Transition)
    → ((k : ℕ) → k < length ts → length (f (i + k)) ≤ 28 + 6 * length (arc_words (get_or ts k blank)))
    → length (flat f (from i (length ts))) ≤ 28 * length ts + 6 * length (flat arc_words ts)
unfolding flat from
lines-length f i [] h = omega arith
lines-length f i (t ∷ ts) h =
    omega (
      arith,
      length-append (f i) (flat f (from (i + 1) (length ts))),
      length-append (arc_words t) (flat arc_words ts),
      first (h 0 (omega arith)),
      lines-length f (i + 1) ts (λ k l. next k (h (suc k) (omega arith))),
    )
  where
    first : length (f (i + 0)) ≤ 28 + 6 * length (arc_words t) → length (f i) ≤ 28 + 6 * length (arc_words t)
    first l = let e : i + 0 ≡ i = omega arith in rw e at l

    next : (k : ℕ) → length (f (i + suc k)) ≤ 28 + 6 * length (arc_words (get_or ts k blank)) → length (f (i + 1 + k)) ≤ 28 + 6 * length (arc_words (get_or ts k blank))
    next k l = let e : i + suc k ≡ i + 1 + k = omega arith in rw e at l

module _ (net : Net) (few : length (encode net) ≤ 16384) (few-places : net.places ≤ 65536) (good : is_ascending net ≡ true)
    (labels : (k : ℕ) → k < length net.transitions → SmallLabel (transition_at net k).label) where
  one-length : (k : ℕ) → k < length net.transitions → length (transition_line (encode net) k) ≤ 28 + 6 * length (arc_words (transition_at net k))
  one-length k h =
      let t = transition_at net k in
      let l = subst (λ (x : Label). SmallLabel x) (sym (Encode.label-at net k h)) (labels k h) in
      let i = ascends-small net.places 0 t.inputs (omega arith) (Encode.inputs-ascend net k h good) in
      let o = ascends-small net.places 0 t.outputs (omega arith) (Encode.outputs-ascend net k h good) in
      let e = line-length (encode net) k (omega (arith, Encode.image-length net)) l (rw (Encode.inputs-at net k h) i)
      (rw (Encode.outputs-at net k h) o) in
      omega (arith, length-append t.inputs t.outputs, rw (Encode.inputs-at net k h, Encode.outputs-at net k h) at e)

  header-length : length (header_line (encode net)) ≤ 30
  unfolding encode flat from
  header-length =
      rw (header-parts (encode net))
      (simp length-append
      (omega (
        arith,
        five-digits (word (encode net) 0) (omega arith),
        five-digits (word (encode net) 1) (omega (arith, Encode.image-length net)),
        five-digits (word (encode net) 2) (omega (arith, Encode.image-length net)),
        five-digits (word (encode net) 3) (omega (arith, Encode.image-length net)),
        five-digits (word (encode net) 4) (omega (arith, Encode.image-length net)),
      )))

  pub listing-length : length (listing (encode net)) ≤ 30 + 6 * length (encode net)
  unfolding listing
  listing-length =
      let f = transition_line (encode net) in
      let ts = net.transitions in
      rw (Encode.transition-count net) (omega (
        arith,
        length-append (header_line (encode net)) (flat f (range (length ts))),
        header-length,
        lines-length f 0 ts (λ k h. let e : 0 + k ≡ k = omega arith in rw e (one-length k h)),
        Encode.arcs-length ts,
        Encode.image-length net,
      ))
