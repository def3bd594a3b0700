-- Words of lists of numbers: inside, and past the end.
use Rattle.std.specs.Prelude.{◌≡◌, ◌≤◌, ◌<◌, ℕ, zero, suc, List, [], ◌∷◌, length, slice_index_or, get_or}
use Rattle.lists.specs.Lists.{Word}
use Rattle.std.proofs.Common.{arith, ◌∙◌, sym, refl}

item_same : (w : List ℕ) (i x y : ℕ) → i < length w → get_or w i x ≡ get_or w i y
item_same [] i x y h = absurd (omega arith)
item_same (a ∷ w) zero x y h = refl
item_same (a ∷ w) (suc i) x y h = item_same w i x y (omega arith)

item_past : (w : List ℕ) (i x : ℕ) → length w ≤ i → get_or w i x ≡ x
item_past [] i x h = refl
item_past (a ∷ w) zero x h = absurd (omega arith)
item_past (a ∷ w) (suc i) x h = item_past w i x (omega arith)

pub word_inside : (limit : ℕ) (w : List ℕ) (i n x : ℕ) → i < length w → x ≡ slice_index_or w i x → Word limit (x ∷ []) 0 n → Word limit w i n
word_inside limit w i n x h e r = record { is = r.is ∙ (e ∙ item_same w i x 0 h); small = r.small }

pub word_past : (most : ℕ) (w : List ℕ) (i : ℕ) → length w ≤ i → Word (suc most) w i 0
word_past most w i h = record { is = sym (item_past w i 0 h); small = omega arith }
