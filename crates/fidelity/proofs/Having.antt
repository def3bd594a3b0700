-- A place that exists is among the marked places of a configuration exactly where the configuration marks it.
use Prim.Native.Nat.{ℕ}
use mathlib.Core.Path.{◌≡◌, refl}
use mathlib.Core.Logic.{◌⊎◌, inl, inr}
use mathlib.Core.Bool.{Bool, true, false, ◌&&◌, false≢true}
use mathlib.Core.List.{List, [], ◌∷◌}
use Rattle.lists.specs.Lists.{pick, same, keep}
use Rattle.lists.proofs.Tests.{and_left, and_right, both_ways, same_self, same_true}
use Rattle.scheme.specs.Scheme.{Scheme}
use Rattle.table.specs.Accepted.{Accepted}
use Rattle.places.specs.Values.{Values}
use Rattle.places.specs.Places.{Place, equals, differs, free, control, places}
use Rattle.readback.specs.Configurations.{Configuration}
use Rattle.readback.specs.Reading.{is_same_place, has}
use Rattle.readback.proofs.Elements.{Element, here, there, no-element, element-cases, some-element, element-some}
use Rattle.fidelity.specs.Inner.Marks.{mark, Exists}
use Rattle.fidelity.proofs.Places.{exists-listed}

pub same_place : (p : Place) → is_same_place p p ≡ true
same_place (equals x v) = rw (same_self x, same_self v)
same_place (differs x v) = rw (same_self x, same_self v)
same_place (free v) = same_self v
same_place (control n k) = rw (same_self n, same_self k)

two-same : (a b c d : ℕ) → (same a c && same b d) ≡ true → (a ≡ c) × (b ≡ d)
two-same a b c d h = (same_true a c (and_left (same a c) (same b d) h), same_true b d (and_right (same a c) (same b d) h))

pub place_same : (p q : Place) → is_same_place p q ≡ true → p ≡ q
place_same (equals a b) (equals c d) h = let (x, y) = two-same a b c d h in rw (x, y)
place_same (equals a b) (differs c d) h = absurd (false≢true h)
place_same (equals a b) (free d) h = absurd (false≢true h)
place_same (equals a b) (control c d) h = absurd (false≢true h)
place_same (differs a b) (equals c d) h = absurd (false≢true h)
place_same (differs a b) (differs c d) h = let (x, y) = two-same a b c d h in rw (x, y)
place_same (differs a b) (free d) h = absurd (false≢true h)
place_same (differs a b) (control c d) h = absurd (false≢true h)
place_same (free b) (equals c d) h = absurd (false≢true h)
place_same (free b) (differs c d) h = absurd (false≢true h)
place_same (free b) (free d) h = rw (same_true b d h)
place_same (free b) (control c d) h = absurd (false≢true h)
place_same (control a b) (equals c d) h = absurd (false≢true h)
place_same (control a b) (differs c d) h = absurd (false≢true h)
place_same (control a b) (free d) h = absurd (false≢true h)
place_same (control a b) (control c d) h = let (x, y) = two-same a b c d h in rw (x, y)

module _ (f : Place → Bool) where
  pub element-keep : {p : Place} (ps : List Place) → Element p ps → f p ≡ true → Element p (keep f ps)
  unfolding keep
  element-keep {p = p} [] x'' h = elim x'' [ ]
  element-keep (p ∷ ps) here h = rw h here
  element-keep {p} (q ∷ ps) (there e) h = go (f q) (element-keep ps e h)
    where
      go : (b : Bool) → Element p (keep f ps) → Element p (pick b (q ∷ keep f ps) (keep f ps))
      go true i = there i
      go false i = i

  pub keep-element : {p : Place} (ps : List Place) → Element p (keep f ps) → f p ≡ true
  unfolding keep
  keep-element [] e = no-element e
  keep-element {p} (q ∷ ps) e = go (f q) refl e (keep-element ps)
    where
      first : f q ≡ true → (p ≡ q) ⊎ Element p (keep f ps) → (Element p (keep f ps) → f p ≡ true) → f p ≡ true
      first h (inl x) ih = rw x h
      first h (inr i) ih = ih i

      go : (b : Bool) → f q ≡ b → Element p (pick b (q ∷ keep f ps) (keep f ps)) → (Element p (keep f ps) → f p ≡ true) → f p ≡ true
      go true h i ih = first h (element-cases i) ih
      go false h i ih = ih i

pub has-mark : (S : Scheme) (U : Values) (A : Accepted S) (c : Configuration) (p : Place) → Exists S U p → has (keep (mark S c) (places S U)) p ≡ mark S c p
unfolding has
has-mark S U A c p e = both_ways (has ms p) (mark S c p) (λ h. there' (some-element (is_same_place p) ms h)) back
  where
    ms : List Place
    ms = keep (mark S c) (places S U)

    there' : (q : Place) × Element q ms × (is_same_place p q ≡ true) → mark S c p ≡ true
    there' (q, i, h) = rw (place_same p q h) (keep-element (mark S c) (places S U) i)

    back : mark S c p ≡ true → has ms p ≡ true
    back h = element-some (is_same_place p) ms (element-keep (mark S c) (places S U) (exists-listed S U A e) h) (same_place p)
