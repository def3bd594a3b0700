-- Laws of tests and writes over listed places: what one turn of a loop over a part of the image does.
use Rattle.std.specs.Prelude.{◌==◌, max}
use mathlib.Core.Path.{◌≡◌, refl, sym, ap, ◌∙◌}
use mathlib.Core.Bool.{Bool, true, false, ◌&&◌, ◌||◌}
use mathlib.Core.List.{List, [], ◌∷◌}
use Prim.Native.Nat.{ℕ, suc, ◌+◌, ◌≤◌, ◌<◌}
use native.Mathlib.Omega.{arith}
use native.Mathlib.Decide.{dec_lt}
use lib.Dec.{leb, ltb}
use lib.ListN.{length, get_or, set, drop, length-set}
use lib.Seq.{slice}
use borrow.Author.Tests.{le-leb, lt-leb, lt-ltb, le-ltb}
use Rattle.std.proofs.lemmas.List.{get_or_default}
use Rattle.lists.specs.Lists.{word, same, every, some, member, ascends}
use Rattle.lists.proofs.Tests.{false-true, and-true, and-false, or-none, same-yes, same_self, same-no, same-sym}
use Rattle.lists.proofs.Slices.{drop-step, drop-none, slice-step, slice-none}
use Rattle.lists.proofs.Ascending.{ascends-rest, ascends-below, ascends-cons, ascends-lower, not-below, element-below}
use Rattle.net.specs.Firing.{is_place_marked, is_enabled, has_contact, put}

-- ---- bytes of a marking

-- the higher of two numbers tells whether one is above 1
higher-tells : (a b n : ℕ) (r : Bool) → n ≡ max a b → (leb a 1 && (leb b 1 && r)) ≡ (leb n 1 && r)
higher-tells a b n r e = go (dec_lt 1 a) (dec_lt 1 b)
  where
    go : Dec (1 < a) → Dec (1 < b) → (leb a 1 && (leb b 1 && r)) ≡ (leb n 1 && r)
    go (yes p) q = rw (lt-leb a 1 p, lt-leb n 1 (omega arith)) refl
    go (no p) (yes q) = let u : a ≤ 1 = omega arith in rw (le-leb a 1 u, lt-leb b 1 q, lt-leb n 1 (omega arith)) refl
    go (no p) (no q) =
        let u : a ≤ 1 = omega arith in
        let v : b ≤ 1 = omega arith in
        rw (le-leb a 1 u, le-leb b 1 v, le-leb n 1 (omega arith)) refl

-- no byte is above 1, of the highest seen and those from i on
abbrev pub low_from : ℕ → List ℕ → ℕ → Bool
low_from highest m i = leb highest 1 && every (λ byte. leb byte 1) (drop i m)

pub highest-more : (m : List ℕ) (i : ℕ) → i < length m → (highest next : ℕ) → next ≡ max highest (get_or m i 0)
    → low_from highest m i ≡ low_from next m (i + 1)
unfolding every
highest-more m i h highest next e =
    rw (drop-step m i h) (higher-tells highest (get_or m i 0) next (every (λ byte. leb byte 1) (drop (i + 1) m)) e)

pub highest-last : (m : List ℕ) (i highest : ℕ) → length m ≤ i → low_from highest m i ≡ leb highest 1
unfolding every
highest-last m i highest h = rw (drop-none m i h) (and-true (leb highest 1))

-- ---- inputs that have their tokens

-- the place that comes next, and those after it
pub enabled-next : (m p : List ℕ) (i : ℕ) → i < length p → is_enabled m (drop i p) ≡ (same (word m (get_or p i 0)) 1 && is_enabled m (drop (i + 1) p))
unfolding is_enabled every
enabled-next m p i h = rw (drop-step p i h)

-- none is left
pub enabled-none : (m p : List ℕ) (i : ℕ) → length p ≤ i → is_enabled m (drop i p) ≡ true
unfolding is_enabled every
enabled-none m p i h = rw (drop-none p i h)

-- one without its token
pub enabled-not : (m p : List ℕ) (i : ℕ) → i < length p → (word m (get_or p i 0) ≡ 1 → ⊥) → is_enabled m (drop i p) ≡ false
enabled-not m p i h f = enabled-next m p i h ∙ rw (same-no (word m (get_or p i 0)) 1 f)

-- one with its token
pub enabled-more : (m p : List ℕ) (i : ℕ) → i < length p → word m (get_or p i 0) ≡ 1 → is_enabled m (drop i p) ≡ is_enabled m (drop (i + 1) p)
enabled-more m p i h e = enabled-next m p i h ∙ rw (same-yes (word m (get_or p i 0)) 1 e)

-- ---- the same of a part of a list, from i to e

module _ (w : List ℕ) (i e : ℕ) where
  pub part_none : e ≤ i → (m : List ℕ) → is_enabled m (slice i e w) ≡ true
  unfolding is_enabled every
  part_none h m = rw (slice-none w i e h)

  module _ (h : i < e) (k : e ≤ length w) where
    pub part-not : (m : List ℕ) → (word m (get_or w i 0) ≡ 1 → ⊥) → is_enabled m (slice i e w) ≡ false
    unfolding is_enabled every
    part-not m p = rw (slice-step w i e, same-no (word m (get_or w i 0)) 1)

    pub part-more : (m : List ℕ) → word m (get_or w i 0) ≡ 1 → is_enabled m (slice i e w) ≡ is_enabled m (slice (i + 1) e w)
    unfolding is_enabled every
    part-more m p = rw (slice-step w i e, same-yes (word m (get_or w i 0)) 1)

-- ---- neighbours

-- the word at i lies below n, and what follows it ascends from there
abbrev pub rises_on : List ℕ → ℕ → ℕ → Bool
rises_on w n i = ltb (get_or w i 0) n && ascends n (get_or w i 0 + 1) (drop (i + 1) w)

pub rises-none : (w : List ℕ) (n : ℕ) → true ≡ (length w == 0) → true ≡ ascends n 0 w
unfolding ascends same
rises-none [] n h = refl
rises-none (x ∷ xs) n h = false-true (same-no (suc (length xs)) 0 (λ e. omega arith)) (sym h)

pub not_empty : (w : List ℕ) → false ≡ (length w == 0) → 0 < length w
not_empty [] h = false-true (sym h) refl
not_empty (x ∷ xs) h = omega arith

pub rises-first : (w : List ℕ) (n : ℕ) → 0 < length w → ascends n 0 w ≡ rises_on w n 0
unfolding ascends
rises-first [] n h = absurd (omega arith)
rises-first (x ∷ xs) n h = rw (le-leb 0 x (omega arith)) refl

module _ (w : List ℕ) (n i : ℕ) (h : i + 1 < length w) (right next : Bool) where
  pub rises_next : next ≡ right → get_or w i 0 < get_or w (i + 1) 0 → (right && rises_on w n i) ≡ (next && rises_on w n (i + 1))
  unfolding ascends
  rises_next q p =
      rw (q, drop-step w (i + 1) h, le-leb (get_or w i 0 + 1) (get_or w (i + 1) 0) (omega arith)) (ap (λ (b : Bool). right && b) (go (dec_lt (get_or w (i + 1) 0) n)))
    where
      go : Dec (get_or w (i + 1) 0 < n) → (ltb (get_or w i 0) n && rises_on w n (i + 1)) ≡ rises_on w n (i + 1)
      go (yes l) = rw (lt-ltb (get_or w i 0) n (omega arith)) refl
      go (no l) = rw (le-ltb (get_or w (i + 1) 0) n (omega arith)) (and-false (ltb (get_or w i 0) n))

  pub rises-no-more : next ≡ false → get_or w (i + 1) 0 ≤ get_or w i 0 → (right && rises_on w n i) ≡ (next && rises_on w n (i + 1))
  unfolding ascends
  rises-no-more q p =
      rw (q, drop-step w (i + 1) h, lt-leb (get_or w i 0 + 1) (get_or w (i + 1) 0) (omega arith), and-false (ltb (get_or w i 0) n)) (and-false right)

-- at the last word
pub rises-whole : (w : List ℕ) (n i last : ℕ) (right : Bool) → right ≡ true → i ≤ last → last ≤ i → length w ≤ last + 1
    → (right && rises_on w n i) ≡ ltb (get_or w last 0) n
unfolding ascends
rises-whole w n i last right q a b h =
    let p : i ≡ last = omega arith in
    rw (q, p, drop-none w (last + 1) h) (and-true (ltb (get_or w last 0) n))

-- ---- listed places, from the i-th on

module _ (w : List ℕ) (i : ℕ) (h : i < length w) where
  pub put-more : (v : ℕ) (m : List ℕ) → put v m (drop i w) ≡ put v (set m (get_or w i 0) v) (drop (i + 1) w)
  unfolding put
  put-more v m = rw (drop-step w i)

pub put-none : (w : List ℕ) (i : ℕ) → length w ≤ i → (v : ℕ) (m : List ℕ) → put v m (drop i w) ≡ m
unfolding put
put-none w i h v m = rw (drop-none w i h)

pub length-put : (v : ℕ) (m places : List ℕ) → length (put v m places) ≡ length m
unfolding put
length-put v m [] = refl
length-put v m (p ∷ ps) = length-put v (set m p v) ps ∙ length-set m p v

-- ---- contact, by a merge of inputs and outputs

-- an input that is no output does not matter
contact-drop : (m : List ℕ) (input : ℕ) (inputs outputs : List ℕ) → member input outputs ≡ false
    → has_contact m (input ∷ inputs) outputs ≡ has_contact m inputs outputs
unfolding has_contact some member
contact-drop m input inputs [] h = refl
contact-drop m input inputs (x ∷ xs) h =
    let s = or-none (same input x) (member input xs) h in
    rw (same-sym x input ∙ s.0, contact-drop m input inputs xs s.1)

-- an output that is also an input
contact-skip : (m : List ℕ) (output : ℕ) (inputs outputs : List ℕ)
    → has_contact m (output ∷ inputs) (output ∷ outputs) ≡ has_contact m (output ∷ inputs) outputs
unfolding has_contact some member
contact-skip m output inputs outputs = rw (same_self output) (skip (is_place_marked m output))
  where
    skip : (b : Bool) → (b && false || has_contact m (output ∷ inputs) outputs) ≡ has_contact m (output ∷ inputs) outputs
    skip true = refl
    skip false = refl

module _ (w m : List ℕ) (n j : ℕ) (l : j < length w) (up : ascends n 0 (drop j w) ≡ true) where
  rest_up : ascends n (get_or w j 0 + 1) (drop (j + 1) w) ≡ true
  rest_up = ascends-rest n 0 (get_or w j 0) (drop (j + 1) w) (rw (drop-step w j l) at up)

  -- what is left ascends, and from its first word on
  pub later_up : ascends n 0 (drop (j + 1) w) ≡ true
  later_up = ascends-lower n (get_or w j 0 + 1) 0 (drop (j + 1) w) (omega arith) rest_up

  pub from_up : ascends n (get_or w j 0) (drop j w) ≡ true
  from_up =
      let q : ascends n 0 (get_or w j 0 ∷ drop (j + 1) w) ≡ true = rw (drop-step w j l) at up in
      rw (drop-step w j l) (ascends-cons n (get_or w j 0) (get_or w j 0) (drop (j + 1) w) (omega arith) (ascends-below n 0 (get_or w j 0) (drop (j + 1) w) q) ∙ rest_up)

  pub first_below : get_or w j 0 < n
  first_below = ascends-below n 0 (get_or w j 0) (drop (j + 1) w) (rw (drop-step w j l) at up)

  module _ (v : List ℕ) (i : ℕ) (h : i < length v) where
    pub contact-less : get_or v i 0 < get_or w j 0 → has_contact m (drop i v) (drop j w) ≡ has_contact m (drop (i + 1) v) (drop j w)
    contact-less p = rw (drop-step v i h)
        (contact-drop m (get_or v i 0) (drop (i + 1) v) (drop j w) (not-below n (get_or w j 0) (get_or v i 0) (drop j w) from_up p))

    pub contact-both : get_or v i 0 ≡ get_or w j 0 → has_contact m (drop i v) (drop j w) ≡ has_contact m (drop (i + 1) v) (drop (j + 1) w)
    contact-both p =
        rw (drop-step v i h, drop-step w j l, p)
        (contact-skip m (get_or w j 0) (drop (i + 1) v) (drop (j + 1) w)
        ∙ contact-drop m (get_or w j 0) (drop (i + 1) v) (drop (j + 1) w)
        (not-below n (get_or w j 0 + 1) (get_or w j 0) (drop (j + 1) w) rest_up (omega arith)))

  module _ (inputs : List ℕ) (a : member (get_or w j 0) inputs ≡ false) where
    pub contact-here : get_or m (get_or w j 0) 0 ≡ 1 → has_contact m inputs (drop j w) ≡ true
    unfolding has_contact some
    contact-here p = rw (drop-step w j l, same-yes (get_or m (get_or w j 0) 0) 1, a)

    pub contact-free : (get_or m (get_or w j 0) 0 ≡ 1 → ⊥) → has_contact m inputs (drop j w) ≡ has_contact m inputs (drop (j + 1) w)
    unfolding has_contact some
    contact-free p = rw (drop-step w j l, same-no (get_or m (get_or w j 0) 0) 1)

pub contact-none : (w m inputs : List ℕ) (j : ℕ) → length w ≤ j → has_contact m inputs (drop j w) ≡ false
unfolding has_contact some
contact-none w m inputs j h = rw (drop-none w j h)

-- an output below the first input that is left, or after the last, is no input
pub no-input-above : (v : List ℕ) (n i x : ℕ) → i < length v → ascends n 0 (drop i v) ≡ true → x < get_or v i 0 → member x (drop i v) ≡ false
no-input-above v n i x h up p = not-below n (get_or v i 0) x (drop i v) (from_up v [] n i h up) p

pub no-input-left : (v : List ℕ) (i x : ℕ) → length v ≤ i → member x (drop i v) ≡ false
unfolding member
no-input-left v i x h = rw (drop-none v i h)

-- each item of ascending places, as a closure over them gets it
pub each_below : (n : ℕ) (w rest : List ℕ) → ascends n 0 w ≡ true → rest ≡ w → (k d : ℕ) → k < length rest → get_or rest k d < n
each_below n w rest up e k d h = rw (get_or_default rest k d 0 h) (element-below n 0 rest (ap (ascends n 0) e ∙ up) k h)
