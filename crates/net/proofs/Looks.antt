-- What a look gives, case by case.
use mathlib.Core.Path.{◌≡◌, refl, ap, ◌∙◌}
use mathlib.Core.List.{List, [], ◌∷◌, ◌++◌}
use Prim.Native.Nat.{ℕ, ◌≤◌, ◌<◌}
use native.Mathlib.Omega.{arith}
use lib.ListN.{length, take, drop}
use lib.Seq.{take_at, drop_at}
use borrow.Author.Tests.{lt-ltb, le-ltb}
use Rattle.lists.proofs.Tests.{same_self, same-no}
use Rattle.net.specs.declared.Cause.{Cause}
use Rattle.net.specs.Image.{place_count_of}
use Rattle.net.specs.Firing.{moved, made, refused, step, in_turn}
use Rattle.net.specs.Looking.{looked, shown, look}
use Rattle.net.specs.Answers.{cause_number}
use Rattle.net.specs.Lent.{lent_cause}
use Rattle.net.proofs.Lent.{Right, cause-some}
use Rattle.net.proofs.Steps.{turn-refused, turn_last, fire_refused, fire-as}

module _ (w m : List ℕ) (t : ℕ) (next : List ℕ) where
  -- ---- a look on a right image, at a right marking

  pub look-refused : (x : Cause) → step w m t ≡ refused (cause_number x) → looked (cause_number x) 0 next ≡ shown (place_count_of w) (in_turn w m (t ∷ [])) next
  unfolding shown
  look-refused x e = rw (turn-refused w m t [] (cause_number x) e, same-no (cause_number x) 0 (cause-some x))

  module _ (after : List ℕ) (e : step w m t ≡ made after) where
    pub look-short : length next < place_count_of w → looked 10 0 next ≡ shown (place_count_of w) (in_turn w m (t ∷ [])) next
    unfolding shown
    look-short h = rw (turn_last w m t after e, same_self 0, lt-ltb (length next) (place_count_of w) h)

    pub look-done : place_count_of w ≤ length next
        → looked 0 (place_count_of w) (after ++ drop (place_count_of w) next) ≡ shown (place_count_of w) (in_turn w m (t ∷ [])) next
    unfolding shown
    look-done h = rw (turn_last w m t after e, same_self 0, le-ltb (length next) (place_count_of w) h)

  -- the marking copied to the front of the buffer, and its tokens moved there
  pub look-moved : (ins outs copied left : List ℕ) → step w m t ≡ made (moved m ins outs) → length m ≡ place_count_of w → length m ≤ length next
      → copied ≡ m ++ drop (length m) next → left ≡ moved (take (length m) copied) ins outs
      → looked 0 (length m) (left ++ drop (length m) copied) ≡ shown (place_count_of w) (in_turn w m (t ∷ [])) next
  look-moved ins outs copied left e l h p q =
      let a : take (length m) copied ≡ m = ap (take (length m)) p ∙ take_at m (drop (length m) next) (length m) refl in
      let b : drop (length m) copied ≡ drop (length m) next = ap (drop (length m)) p ∙ drop_at m (drop (length m) next) (length m) refl in
      let k : place_count_of w ≤ length next = omega arith in
      rw (q, a, b, l) (look-done (moved m ins outs) e k)

  -- ---- any look

  pub look_refused : (x : Cause) → cause_number x ≡ lent_cause w m → looked (cause_number x) 0 next ≡ look w m t next
  unfolding look shown
  look_refused x e = rw (← fire_refused w m t x e, same-no (cause_number x) 0 (cause-some x))

  pub look-as : Right w m → look w m t next ≡ shown (place_count_of w) (in_turn w m (t ∷ [])) next
  unfolding look
  look-as r = rw (fire-as w m t r.header r.marking)
