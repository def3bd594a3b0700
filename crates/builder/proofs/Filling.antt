-- Lists of words that are filled with the numbers of places, one after the other, by insertion.
use mathlib.Core.Path.{◌≡◌, refl, sym, ap, ◌∙◌}
use mathlib.Core.Bool.{false}
use mathlib.Core.List.{List, [], ◌∷◌, ◌++◌}
use Prim.Native.Nat.{ℕ, ◌≤◌, ◌<◌}
use native.Mathlib.Omega.{arith}
use lib.ListN.{length, take}
use Rattle.scheme.specs.Words.{nodes}
use Rattle.scheme.specs.Scheme.{Scheme, scheme}
use Rattle.table.specs.Causes.{cause}
use Rattle.places.specs.Values.{Values}
use Rattle.places.specs.Places.{Place, free}
use Rattle.places.specs.Rows.{control_start, number_of, Exists}
use Rattle.places.specs.Inner.Arcs.{insert, exists, numbers_for}
use Rattle.places.specs.Inner.Plan.{today}
use Rattle.builder.specs.Inner.Parts.{Rising, Inserted, Filled}
use Rattle.places.proofs.Rows.{places-length, number-below}
use Rattle.places.proofs.Numbers.{numbers-few}
use Rattle.places.proofs.Split.{numbers-none, numbers-yes, numbers-no, numbers-tail, numbers-swap, numbers-ascend}
use Rattle.places.proofs.Controls.{nodes-are, control-few}

-- a place named last instead of first
pub numbers-last : (S : Scheme) (U : Values) (p : Place) (ps : List Place) → numbers_for S U (ps ++ (p ∷ [])) ≡ numbers_for S U (p ∷ ps)
numbers-last S U p [] = refl
numbers-last S U p (q ∷ ps) = numbers-tail S U q (ps ++ (p ∷ [])) (p ∷ ps) (numbers-last S U p ps) ∙ numbers-swap S U q p ps

module _ (w : List ℕ) where
  abbrev S : Scheme
  S = scheme w

  abbrev U : Values
  U = today w

  pub fill_none : (list : List ℕ) → Filled w list 0 []
  fill_none list = record { holds = sym (numbers-none S U); size = sym (ap (λ (l : List ℕ). length l) (numbers-none S U)) }

  pub fill-same : (list : List ℕ) (count : ℕ) (ps qs : List Place) → numbers_for S U ps ≡ numbers_for S U qs → Filled w list count ps → Filled w list count qs
  fill-same list count ps qs e f = record { holds = f.holds ∙ e; size = f.size ∙ ap (λ (l : List ℕ). length l) e }

  -- the net has no such place: nothing is put in
  pub fill-without : (list : List ℕ) (count : ℕ) (p : Place) (ps : List Place) → exists S U p ≡ false → Filled w list count ps → Filled w list count (p ∷ ps)
  fill-without list count p ps e f = fill-same list count ps (p ∷ ps) (sym (numbers-no S U p ps e)) f

  -- its number is put in
  pub fill-with : (list after : List ℕ) (count r x : ℕ) (p : Place) (ps : List Place) → Exists S U p → x ≡ number_of S U p → Inserted x count list r after
      → Filled w list count ps → Filled w after r (p ∷ ps)
  fill-with list after count r x p ps e is i f =
      let s : insert x (take count list) ≡ numbers_for S U (p ∷ ps) = rw (is, f.holds) (sym (numbers-yes S U p ps e)) in
      record { holds = i.first ∙ s; size = i.size ∙ ap (λ (l : List ℕ). length l) s }

  pub fill-few : (list : List ℕ) (count : ℕ) (ps : List Place) → Filled w list count ps → count ≤ length ps
  fill-few list count ps f = omega (arith, f.size, numbers-few S U ps)

  module _ (h : cause w ≡ 0) where
    pub number_small : (p : Place) → Exists S U p → number_of S U p < 4294967296
    number_small p e =
        omega (arith, number-below S U (free 0) p e, places-length S U, control-few w h (nodes w) (omega arith), ap (control_start S U) (nodes-are w))

    pub fill-rising : (list : List ℕ) (count : ℕ) (ps : List Place) → length ps < length list → Filled w list count ps → Rising list count
    fill-rising list count ps l f = record {
      room = omega (arith, fill-few list count ps f);
      rises = rw f.holds (numbers-ascend S U 0 4294967296 ps (λ p i e. (omega arith, number_small p e)));
    }
