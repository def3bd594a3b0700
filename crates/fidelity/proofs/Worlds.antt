-- Any list of calls on a built net: the marking is the one that the plain process's firings give from the start, and no call answers 16.
use Prim.Native.Nat.{ℕ, zero, suc}
use mathlib.Core.Path.{◌≡◌, refl, sym, ap, ◌∙◌, subst}
use mathlib.Core.Logic.{◌⊎◌, inl, inr}
use mathlib.Core.Bool.{Bool, true, false, not, ◌&&◌}
use mathlib.Core.List.{List, [], ◌∷◌, ◌++◌}
use native.Mathlib.Omega.{arith}
use Rattle.lists.specs.Lists.{same, every}
use Rattle.lists.proofs.Tests.{same-no}
use Rattle.scheme.specs.Scheme.{scheme}
use Rattle.table.specs.Accepted.{Accepted}
use Rattle.process.specs.States.{State}
use Rattle.net.specs.Firing as Firing
use Rattle.net.specs.Firing.{Outcome, outcome, RunOutcome, Search, lowest, Step, made, refused, step, in_turn, run_by, initial_marking, is_marking}
use Rattle.net.specs.Net.{Net}
use Rattle.net.proofs.Steps.{turn-made, turn-refused}
use Rattle.net.proofs.Outcomes.{run-cases}
use Rattle.readback.specs.Configurations.{Configuration}
use Rattle.fidelity.specs.Calls.{ending_cause, advance, advances, leaves_all}
use Rattle.fidelity.specs.Inner.Standing.{Shows, marking_of}
use Rattle.fidelity.proofs.Searching.{Sound}
use Rattle.fidelity.proofs.Rows.{left-bound}
use Rattle.fidelity.proofs.Built as Built
use Rattle.fidelity.proofs.Turns.{image, S, U, E, Acts, goes, stops, has-cause, acts}

-- a cause that a number on a built net has
abbrev pub Calm : ℕ → Type 0
Calm cause = (cause ≡ 0) ⊎ ((cause ≡ 14) ⊎ (cause ≡ 15))

pub calm-16 : (cause : ℕ) → Calm cause → not (same cause 16) ≡ true
calm-16 cause h = rw (same-no cause 16 (λ e. off e h))
  where
    off : cause ≡ 16 → Calm cause → ⊥
    off e (inl a) = omega arith
    off e (inr (inl a)) = omega arith
    off e (inr (inr a)) = omega arith

pub calm-leaves : (cause : ℕ) → Calm cause → leaves_all cause ≡ false
calm-leaves cause h = rw (same-no cause 11 (λ e. off 11 e h (inl refl)), same-no cause 13 (λ e. off 13 e h (inr refl)))
  where
    off : (k : ℕ) → cause ≡ k → Calm cause → (k ≡ 11) ⊎ (k ≡ 13) → ⊥
    off k e (inl a) (inl b) = omega arith
    off k e (inl a) (inr b) = omega arith
    off k e (inr (inl a)) (inl b) = omega arith
    off k e (inr (inl a)) (inr b) = omega arith
    off k e (inr (inr a)) (inl b) = omega arith
    off k e (inr (inr a)) (inr b) = omega arith

pub every-snoc : {A : Type 0} (p : A → Bool) (xs : List A) (x : A) → every p xs ≡ true → p x ≡ true → every p (xs ++ (x ∷ [])) ≡ true
unfolding every
every-snoc p [] x h q = rw q
every-snoc p (y ∷ xs) x h q = go (p y) h (every-snoc p xs x)
  where
    go : (b : Bool) → (b && every p xs) ≡ true → (every p xs ≡ true → p x ≡ true → every p (xs ++ (x ∷ [])) ≡ true) → (b && every p (xs ++ (x ∷ []))) ≡ true
    go true h ih = ih h q
    go false h ih = h

module _ (w : List ℕ) (A : Accepted (scheme w)) where
  abbrev pub net : Net
  net = Built.net (S w A) (U w A) A (E w A)

  -- the marking of a configuration of the table
  abbrev marks : Configuration → List ℕ
  marks c = marking_of (S w A) (U w A) c

  abbrev pub Standing : Configuration → State → Type 0
  Standing c s = Shows (S w A) (U w A) c s

  pub act : (c : Configuration) (s : State) (k : ℕ) → Standing c s → Acts w A c s 0 k
  act c s k R = acts w A c s 0 k R (omega (arith, left-bound (S w A) (U w A) A (E w A) c R.formed))

  pub turn-calm : (ns : List ℕ) (c : Configuration) (s : State) → Standing c s → Calm (in_turn (image w) (marks c) ns).cause
  unfolding in_turn
  turn-calm [] c s R = inl refl
  turn-calm (k ∷ ns) c s R = go (act c s k R) (turn-calm ns)
    where
      go : Acts w A c s 0 k → ((c : Configuration) (s : State) → Standing c s → Calm (in_turn (image w) (marks c) ns).cause)
          → Calm (in_turn (image w) (marks c) (k ∷ ns)).cause
      go (goes d N e o b) ih =
          subst (λ (o : Outcome). Calm o.cause) (sym (turn-made (image w) (marks c) k ns (marks d) e)) (ih d (advance w (image w) s k) N)
      go (stops cause h e) ih = subst (λ (o : Outcome). Calm o.cause) (sym (turn-refused (image w) (marks c) k ns cause e)) (inr h)

  -- numbers fired in turn after others that all fired
  pub record Joined (m a b : List ℕ) : Type 0 where
    pub cause : (in_turn (image w) m (a ++ b)).cause ≡ (in_turn (image w) (in_turn (image w) m a).marking b).cause
    pub marking : (in_turn (image w) m (a ++ b)).marking ≡ (in_turn (image w) (in_turn (image w) m a).marking b).marking

  pub joined : (a b : List ℕ) (c : Configuration) (s : State) → Standing c s → (in_turn (image w) (marks c) a).cause ≡ 0 → Joined (marks c) a b
  unfolding in_turn
  joined [] b c s R h = record { cause = refl; marking = refl }
  joined (k ∷ a) b c s R h = go (act c s k R) (joined a b)
    where
      go : Acts w A c s 0 k → ((c : Configuration) (s : State) → Standing c s → (in_turn (image w) (marks c) a).cause ≡ 0 → Joined (marks c) a b)
          → Joined (marks c) (k ∷ a) b
      go (stops cause o e) ih = absurd (has-cause o (sym (ap (λ (o : Outcome). o.cause) (turn-refused (image w) (marks c) k a cause e)) ∙ h))
      go (goes d N e o l) ih = build (ih d (advance w (image w) s k) N (sym (ap (λ (o : Outcome). o.cause) p) ∙ h))
        where
          p : in_turn (image w) (marks c) (k ∷ a) ≡ Firing.after 1 (in_turn (image w) (marks d) a)
          p = turn-made (image w) (marks c) k a (marks d) e

          q : in_turn (image w) (marks c) (k ∷ (a ++ b)) ≡ Firing.after 1 (in_turn (image w) (marks d) (a ++ b))
          q = turn-made (image w) (marks c) k (a ++ b) (marks d) e

          build : Joined (marks d) a b → Joined (marks c) (k ∷ a) b
          build J = record {
            cause = ap (λ (o : Outcome). o.cause) q ∙ J.cause ∙ ap (λ (o : Outcome). (in_turn (image w) o.marking b).cause) (sym p);
            marking = ap (λ (o : Outcome). o.marking) q ∙ J.marking ∙ ap (λ (o : Outcome). (in_turn (image w) o.marking b).marking) (sym p);
          }

  pub advances-append : (s : State) (a b : List ℕ) → advances w (image w) s (a ++ b) ≡ advances w (image w) (advances w (image w) s a) b
  unfolding advances
  advances-append s [] b = refl
  advances-append s (k ∷ a) b = advances-append (advance w (image w) s k) a b

  -- a run by a sound rule stops at no cause
  pub run-calm : (rule : List ℕ → Search) → Sound (image w) rule → (limit room : ℕ) (c : Configuration) (s : State) → Standing c s
      → ending_cause (run_by (image w) rule limit room (marks c)).reason ≡ 0
  unfolding run_by
  run-calm rule G zero room c s R = refl
  run-calm rule G (suc limit) zero c s R = refl
  run-calm rule G (suc limit) (suc room) c s R =
      run-cases (image w) rule limit room (marks c) (λ o. ending_cause o.reason ≡ 0) (λ p. refl) (λ p. absurd (G.whole (marks c) p))
      (λ t k p q. absurd (never t k p q)) (λ t next p q. onward t next q (act c s t R) (run-calm rule G limit room))
    where
      same-refused : (a b : ℕ) → refused a ≡ refused b → a ≡ b
      same-refused a b e = cc

      apart : (a : ℕ) (m : List ℕ) → refused a ≡ made m → ⊥
      apart a m e = cc

      same-made : (a b : List ℕ) → made a ≡ made b → a ≡ b
      same-made a b e = cc

      never : (t k : ℕ) → rule (marks c) ≡ lowest t → step (image w) (marks c) t ≡ refused k → ⊥
      never t k p q = go (act c s t R) (G.refuses (marks c) t k p q)
        where
          go : Acts w A c s 0 t → k ≡ 16 → ⊥
          go (goes d N e o b) h = apart k (marks d) (sym q ∙ e)
          go (stops cause (inl x) e) h = let y : k ≡ cause = same-refused k cause (sym q ∙ e) in omega arith
          go (stops cause (inr x) e) h = let y : k ≡ cause = same-refused k cause (sym q ∙ e) in omega arith

      onward : (t : ℕ) (next : List ℕ) → step (image w) (marks c) t ≡ made next → Acts w A c s 0 t
          → ((c : Configuration) (s : State) → Standing c s → ending_cause (run_by (image w) rule limit room (marks c)).reason ≡ 0)
          → ending_cause (run_by (image w) rule limit room next).reason ≡ 0
      onward t next q (goes d N e o b) ih =
          subst (λ (m : List ℕ). ending_cause (run_by (image w) rule limit room m).reason ≡ 0) (sym (same-made next (marks d) (sym q ∙ e)))
          (ih d (advance w (image w) s t) N)
      onward t next q (stops cause h e) ih = absurd (apart cause next (sym e ∙ q))
