-- Values that are alike but for the names of private ones: names that read other names, and a new value on either side, keep them so.
use Prim.Native.Nat.{ℕ}
use mathlib.Core.Path.{◌≡◌, refl, sym, ◌∙◌, subst, fun_ext}
use mathlib.Core.Logic.{◌≢◌}
use mathlib.Core.Bool.{true≢false, false≢true}
use mathlib.Core.Option.{Option, none, some}
use native.Mathlib.Decide.{ℕ_discrete}
use Rattle.lists.proofs.Tests.{same_self}
use Rattle.scheme.specs.Scheme.{Scheme}
use Rattle.process.specs.States.{State, put, value_of, is_one_value, Renamed}
use Rattle.fidelity.specs.Inner.Marks.{given}
use Rattle.fidelity.specs.Inner.Standing.{Alike}
use Rattle.fidelity.proofs.Basics.{not-given, put_self, put_other}

module _ (e s : ℕ → Option ℕ) (T : Alike e s) where
  -- names that read other names
  like-other : (o q : Option ℕ) → value_of e o ≡ value_of e q → value_of s o ≡ value_of s q
  like-other none none h = refl
  like-other none (some y) h = sym (not-given (s y) (sym (T.both y) ∙ rw (← h)))
  like-other (some x) none h = not-given (s x) (sym (T.both x) ∙ rw h)
  like-other (some x) (some y) h = T.like x y h

  back-other : (o q : Option ℕ) → value_of s o ≡ value_of s q → value_of e o ≡ value_of e q
  back-other none none h = refl
  back-other none (some y) h = sym (not-given (e y) (T.both y ∙ rw (← h)))
  back-other (some x) none h = not-given (e x) (T.both x ∙ rw h)
  back-other (some x) (some y) h = T.back x y h

  both-other : (o : Option ℕ) → given (value_of e o) ≡ given (value_of s o)
  both-other none = refl
  both-other (some x) = T.both x

  pub alike-other : (g : ℕ → Option ℕ) → Alike (λ x. value_of e (g x)) (λ x. value_of s (g x))
  alike-other g = record { both = λ x. both-other (g x); like = λ x y. like-other (g x) (g y); back = λ x y. back-other (g x) (g y) }

-- a new value on either side
module _ (e s : ℕ → Option ℕ) (T : Alike e s) (r v c : ℕ) (fe : (x : ℕ) → e x ≢ some v) (fs : (x : ℕ) → s x ≢ some c) where
  both-new : (x : ℕ) → Dec (x ≡ r) → given (put e r (some v) x) ≡ given (put s r (some c) x)
  both-new x (yes p) = rw (p, put_self e r (some v), put_self s r (some c))
  both-new x (no d) = rw (put_other e r (some v) x d, put_other s r (some c) x d) (T.both x)

  like-new : (x y : ℕ) → Dec (x ≡ r) → Dec (y ≡ r) → put e r (some v) x ≡ put e r (some v) y → put s r (some c) x ≡ put s r (some c) y
  like-new x y (yes p) (yes q) h = rw (p, q)
  like-new x y (yes p) (no q) h = absurd (fe y (sym (put_other e r (some v) y q) ∙ sym h ∙ rw (p, put_self e r (some v))))
  like-new x y (no p) (yes q) h = absurd (fe x (sym (put_other e r (some v) x p) ∙ h ∙ rw (q, put_self e r (some v))))
  like-new x y (no p) (no q) h =
      rw (put_other s r (some c) x p, put_other s r (some c) y q) (T.like x y (sym (put_other e r (some v) x p) ∙ h ∙ put_other e r (some v) y q))

pub alike_turned : (e s : ℕ → Option ℕ) → Alike e s → Alike s e
alike_turned e s T = record { both = λ x. sym (T.both x); like = T.back; back = T.like }

pub alike-new : (e s : ℕ → Option ℕ) → Alike e s → (r v c : ℕ) → ((x : ℕ) → e x ≢ some v) → ((x : ℕ) → s x ≢ some c)
    → Alike (put e r (some v)) (put s r (some c))
alike-new e s T r v c fe fs = record {
  both = λ x. both-new e s T r v c fe fs x (ℕ_discrete x r);
  like = λ x y. like-new e s T r v c fe fs x y (ℕ_discrete x r) (ℕ_discrete y r);
  back = λ x y. like-new s e (alike_turned e s T) r c v fs fe x y (ℕ_discrete x r) (ℕ_discrete y r);
}

pub alike_self : (e : ℕ → Option ℕ) → Alike e e
alike_self e = record { both = λ x. refl; like = λ x y h. h; back = λ x y h. h }

pub alike_from : (e f s : ℕ → Option ℕ) → ((x : ℕ) → f x ≡ e x) → Alike e s → Alike f s
alike_from e f s h T = subst (λ (k : ℕ → Option ℕ). Alike k s) (fun_ext (λ x. sym (h x))) T

one-given : (o q : Option ℕ) → given o ≡ given q → is_one_value o o ≡ is_one_value q q
one-given none none h = refl
one-given none (some v) h = absurd (false≢true h)
one-given (some v) none h = absurd (true≢false h)
one-given (some v) (some w) h = rw (same_self v, same_self w)

-- alike values at the same nodes are states alike but for the names of private values
pub alike-renamed : (S : Scheme) (s t : State) → ((θ : ℕ) → s.node θ ≡ t.node θ) → Alike s.value t.value → Renamed S s t
alike-renamed S s t n T = record { nodes = n; given = λ x. one-given (s.value x) (t.value x) (T.both x); alike = T.like; back = T.back }
