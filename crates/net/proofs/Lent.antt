-- What the check of an image and a marking tells.
use Rattle.std.proofs.Common.{◌≡◌, ℕ, List, Bool, true, false, not, Result, Err, refl, ap, ◌∙◌, arith}
use Rattle.std.specs.Result.{IsErrAnd}
use Rattle.std.proofs.lemmas.Result.{err_from_is_err_and}
use Rattle.lists.specs.Lists.{pick}
use Rattle.net.specs.declared.Cause.{Cause}
use Rattle.net.specs.declared.Cause.TheVariants.{ImageWrong, RecordWrong, MarkingWrong, NoTransition, NotEnabled, Contact}
use Rattle.net.specs.Image.{place_count_of, is_header_right}
use Rattle.net.specs.Firing.{is_marking}
use Rattle.net.specs.Answers.{cause_number}
use Rattle.net.specs.Lent.{lent_cause}

-- a cause has a number
pub cause-some : (x : Cause) → cause_number x ≡ 0 → ⊥
cause-some ImageWrong e = omega arith
cause-some RecordWrong e = omega arith
cause-some MarkingWrong e = omega arith
cause-some NoTransition e = omega arith
cause-some NotEnabled e = omega arith
cause-some Contact e = omega arith

-- an image and a marking that were found right
pub record Right (w m : List ℕ) : Type 0 where
  pub header : is_header_right w ≡ true
  pub marking : is_marking (place_count_of w) m ≡ true

module _ (w m : List ℕ) where
  pub lent-image : is_header_right w ≡ false → 11 ≡ lent_cause w m
  unfolding lent_cause
  lent-image a = rw a

  module _ (a : is_header_right w ≡ true) where
    pub lent-marking : is_marking (place_count_of w) m ≡ false → 13 ≡ lent_cause w m
    unfolding lent_cause
    lent-marking b = rw (a, b)

    pub lent-both : is_marking (place_count_of w) m ≡ true → 0 ≡ lent_cause w m
    unfolding lent_cause
    lent-both b = rw (a, b)

  pub both_right : lent_cause w m ≡ 0 → Right w m
  unfolding lent_cause
  both_right e = go (is_header_right w) (is_marking (place_count_of w) m) refl refl e
    where
      go : (a b : Bool) → is_header_right w ≡ a → is_marking (place_count_of w) m ≡ b → ◌≡◌ {A = ℕ} (pick (not a) 11 (pick (not b) 13 0)) 0 → Right w m
      go true true p q z = record { header = p; marking = q }
      go true false p q z = absurd (omega arith)
      go false b p q z = absurd (omega arith)

  -- whatever is refused by these causes first
  pub refused_first : (x : Cause) → cause_number x ≡ lent_cause w m → {A : Type 0} (f : ℕ → A) (rest : A)
      → f (cause_number x) ≡ pick (not (is_header_right w)) (f 11) (pick (not (is_marking (place_count_of w) m)) (f 13) rest)
  unfolding lent_cause
  refused_first x e f rest = go (is_header_right w) (is_marking (place_count_of w) m) e
    where
      go : (a b : Bool) → cause_number x ≡ pick (not a) 11 (pick (not b) 13 0) → f (cause_number x) ≡ pick (not a) (f 11) (pick (not b) (f 13) rest)
      go true true z = absurd (cause-some x z)
      go true false z = rw z
      go false b z = rw z

-- what the exit of a `?` answers
pub exit : {A E B : Type 0} (f : Result A E → B) (r : Result A E) (e : E) (b : B) → IsErrAnd r (λ x. x ≡ e) → f (Err e) ≡ b → f r ≡ b
exit f r e b h p = let x = err_from_is_err_and r h in ap f (x.1 ∙ ap Err x.2) ∙ p
