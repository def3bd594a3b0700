-- Laws of parts of a list: what a loop over `slice i end` and over `drop i` sees turn by turn.
use mathlib.Core.Path.{◌≡◌, ap, ◌∙◌}
use mathlib.Core.List.{List, [], ◌∷◌, ◌++◌, append_assoc, append-nil}
use Prim.Native.Nat.{ℕ, zero, suc, ◌+◌, ◌-◌, ◌≤◌, ◌<◌}
use native.Mathlib.Numerals.{add-one}
use native.Mathlib.Omega.{arith}
use lib.ListN.{length, get_or, take, drop, replicate, length-take, length-drop, length-append, drop_of_length-le, get_or-eq_default}
use lib.Seq.{slice, slice-cons, drop-cons, drop_at, take_at, take-nil, get_or-drop, get_or-take}

-- a part that has a first element, and one that has none
pub slice-step : (w : List ℕ) (i e : ℕ) → i < e → e ≤ length w → slice i e w ≡ get_or w i 0 ∷ slice (i + 1) e w
slice-step w i e h k = rw add-one (slice-cons i e w 0 h k)

pub slice-none : {A : Type 0} (w : List A) (i e : ℕ) → e ≤ i → slice i e w ≡ []
slice-none w i e h = drop_of_length-le (take e w) {i = i} (omega (arith, length-take e w))

-- what is left of a whole list
pub drop-step : (w : List ℕ) (i : ℕ) → i < length w → drop i w ≡ get_or w i 0 ∷ drop (i + 1) w
drop-step w i h = rw add-one (drop-cons w i 0 h)

pub drop-none : {A : Type 0} (w : List A) (i : ℕ) → length w ≤ i → drop i w ≡ []
drop-none w i h = drop_of_length-le w h

-- an element of a part
pub get_or-slice : (w : List ℕ) (i e k : ℕ) → i ≤ k → k < e → get_or (slice i e w) (k - i) 0 ≡ get_or w k 0
get_or-slice w i e k a b =
    let s : i + (k - i) ≡ k = omega arith in
    get_or-drop i (take e w) (k - i) 0 ∙ ap (λ (j : ℕ). get_or (take e w) j 0) s ∙ get_or-take e w k 0 b

-- a word of a part
module _ (x : List ℕ) (a e i : ℕ) where
  pub slice-word : i < e - a → get_or (slice a e x) i 0 ≡ get_or x (a + i) 0
  slice-word h = get_or-drop a (take e x) i 0 ∙ get_or-take e x (a + i) 0 (omega arith)

  pub slice-past : e - a ≤ i → get_or (slice a e x) i 0 ≡ 0
  slice-past h = get_or-eq_default (slice a e x) 0 (omega (arith, length-drop a (take e x), length-take e x))

-- a part as it is lent
pub lent-part : (x : List ℕ) (a k : ℕ) → take k (drop a x) ≡ slice a (a + k) x
lent-part x zero k = let q : 0 + k ≡ k = omega arith in rw q
lent-part [] (suc a) k = let q : suc a + k ≡ suc (a + k) = omega arith in rw q (take-nil k)
lent-part (v ∷ x) (suc a) k = let q : suc a + k ≡ suc (a + k) = omega arith in rw q (lent-part x a k)

-- the part between what stands before it and what stands after
pub slice-between : {A : Type 0} (before part behind : List A) (i e : ℕ) → length before ≡ i → i + length part ≡ e
    → slice i e (before ++ (part ++ behind)) ≡ part
slice-between before part behind i e p q =
    let r : length (before ++ part) ≡ e = omega (arith, length-append before part) in
    rw (← append_assoc before part behind, take_at (before ++ part) behind e r) (drop_at before part i p)

-- a list that was filled to its end
pub filled : (n : ℕ) (w : List ℕ) (v : ℕ) → n ≤ length w → length w ≤ n → replicate n v ++ drop n w ≡ replicate (length w) v
filled n w v h k =
    let e : n ≡ length w = omega arith in
    rw (drop-none w n k, append-nil, e)
