-- The places that a marking marks: those whose number has a token. So a place that exists is marked where its number has one.
use mathlib.Core.Path.{◌≡◌, refl, sym, ap, subst}
use mathlib.Core.Logic.{◌⊎◌, inl, inr}
use mathlib.Core.Bool.{Bool, true, false, ◌&&◌, false≢true}
use mathlib.Core.List.{List, [], ◌∷◌}
use Prim.Native.Nat.{ℕ, suc, ◌<◌}
use native.Mathlib.Omega.{arith}
use lib.ListN.{length, get_or}
use Rattle.lists.specs.Lists.{pick, same, word, every, keep}
use Rattle.lists.proofs.Tests.{and_left, and_right, both_ways, same_self, same_true}
use Rattle.scheme.specs.Scheme.{Scheme}
use Rattle.net.specs.Firing.{is_marking}
use Rattle.places.specs.Values.{Values}
use Rattle.places.specs.Places.{Place, equals, differs, free, control, places}
use Rattle.places.specs.Rows.{number_of, Exists}
use Rattle.places.proofs.Rows.{place_at, number-below, number_at}
use Rattle.readback.specs.Reading.{is_same_place, marked, has}
use Rattle.readback.specs.Inner.Hits.{token}
use Rattle.readback.proofs.Elements.{Element, here, there, no-element, element-cases, element-at, some-element, element-some}

-- a marking has a byte for each place
pub marking-length : (n : ℕ) (m : List ℕ) → is_marking n m ≡ true → length m ≡ n
unfolding is_marking
marking-length n m h = same_true (length m) n (and_left (same (length m) n) (every _ m) h)

module _ (m : List ℕ) (number : Place → ℕ) (d : Place) where
  pub marked-where : (ps : List Place) (bs : List ℕ) → length bs ≡ length ps → ((i : ℕ) → i < length ps → word bs i ≡ word m (number (get_or ps i d)))
      → marked ps bs ≡ keep (λ p. token m (number p)) ps
  unfolding marked keep
  marked-where [] bs l h = refl
  marked-where (p ∷ ps) [] l h = absurd (omega arith)
  marked-where (p ∷ ps) (b ∷ bs) l h =
      rw (marked-where ps bs (omega arith) (λ i k. h (suc i) (omega arith)), h 0 (omega arith))

module _ (S : Scheme) (U : Values) (m : List ℕ) where
  -- the places whose number has a token
  abbrev pub chosen : Place → Bool
  chosen p = token m (number_of S U p)

  pub marked-keep : is_marking (length (places S U)) m ≡ true → marked (places S U) m ≡ keep chosen (places S U)
  marked-keep h =
      marked-where m (number_of S U) (free 0) (places S U) m (marking-length (length (places S U)) m h)
      (λ i k. ap (word m) (sym (number_at S U (free 0) i k)))

-- ---- a place among those kept

same_place : (p : Place) → is_same_place p p ≡ true
same_place (equals x v) = rw (same_self x, same_self v)
same_place (differs x v) = rw (same_self x, same_self v)
same_place (free v) = same_self v
same_place (control n k) = rw (same_self n, same_self k)

two-same : (a b c d : ℕ) → (same a c && same b d) ≡ true → (a ≡ c) × (b ≡ d)
two-same a b c d h = (same_true a c (and_left (same a c) (same b d) h), same_true b d (and_right (same a c) (same b d) h))

place_same : (p q : Place) → is_same_place p q ≡ true → p ≡ q
place_same (equals a b) (equals c d) h = let (x, y) = two-same a b c d h in rw (x, y)
place_same (equals a b) (differs c d) h = absurd (false≢true h)
place_same (equals a b) (free d) h = absurd (false≢true h)
place_same (equals a b) (control c d) h = absurd (false≢true h)
place_same (differs a b) (equals c d) h = absurd (false≢true h)
place_same (differs a b) (differs c d) h = let (x, y) = two-same a b c d h in rw (x, y)
place_same (differs a b) (free d) h = absurd (false≢true h)
place_same (differs a b) (control c d) h = absurd (false≢true h)
place_same (free b) (equals c d) h = absurd (false≢true h)
place_same (free b) (differs c d) h = absurd (false≢true h)
place_same (free b) (free d) h = rw (same_true b d h)
place_same (free b) (control c d) h = absurd (false≢true h)
place_same (control a b) (equals c d) h = absurd (false≢true h)
place_same (control a b) (differs c d) h = absurd (false≢true h)
place_same (control a b) (free d) h = absurd (false≢true h)
place_same (control a b) (control c d) h = let (x, y) = two-same a b c d h in rw (x, y)

module _ (f : Place → Bool) where
  element-keep : {p : Place} (ps : List Place) → Element p ps → f p ≡ true → Element p (keep f ps)
  unfolding keep
  element-keep {p = p} [] x'' h = elim x'' [ ]
  element-keep (p ∷ ps) here h = rw h here
  element-keep {p} (q ∷ ps) (there e) h = go (f q) (element-keep ps e h)
    where
      go : (b : Bool) → Element p (keep f ps) → Element p (pick b (q ∷ keep f ps) (keep f ps))
      go true i = there i
      go false i = i

  keep-element : {p : Place} (ps : List Place) → Element p (keep f ps) → f p ≡ true
  unfolding keep
  keep-element [] e = no-element e
  keep-element {p} (q ∷ ps) e = go (f q) refl e (keep-element ps)
    where
      first : f q ≡ true → (p ≡ q) ⊎ Element p (keep f ps) → (Element p (keep f ps) → f p ≡ true) → f p ≡ true
      first h (inl x) ih = rw x h
      first h (inr i) ih = ih i

      go : (b : Bool) → f q ≡ b → Element p (pick b (q ∷ keep f ps) (keep f ps)) → (Element p (keep f ps) → f p ≡ true) → f p ≡ true
      go true h i ih = first h (element-cases i) ih
      go false h i ih = ih i

  pub has-keep : (p : Place) (ps : List Place) → Element p ps → has (keep f ps) p ≡ f p
  unfolding has
  has-keep p ps e = both_ways (has (keep f ps) p) (f p) (λ h. forth (some-element (is_same_place p) (keep f ps) h)) back
    where
      forth : (q : Place) × Element q (keep f ps) × (is_same_place p q ≡ true) → f p ≡ true
      forth (q, i, h) = rw (place_same p q h) (keep-element ps i)

      back : f p ≡ true → has (keep f ps) p ≡ true
      back h = element-some (is_same_place p) (keep f ps) (element-keep ps e h) (same_place p)

module _ (S : Scheme) (U : Values) (m : List ℕ) where
  exists-listed : (p : Place) → Exists S U p → Element p (places S U)
  exists-listed p h =
      subst (λ (q : Place). Element q (places S U)) (place_at S U (free 0) p h)
      (element-at (free 0) (places S U) (number_of S U p) (number-below S U (free 0) p h))

  -- a place that exists is marked where its number has a token
  pub has-number : (p : Place) → Exists S U p → has (keep (chosen S U m) (places S U)) p ≡ token m (number_of S U p)
  has-number p h = has-keep (chosen S U m) p (places S U) (exists-listed p h)
