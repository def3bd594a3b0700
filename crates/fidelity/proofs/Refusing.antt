-- Where a net's image refuses every number, no step can be fired.
use Prim.Native.Nat.{ℕ, ◌≤◌, ◌<◌}
use mathlib.Core.Path.{◌≡◌, refl, ap, ◌∙◌}
use mathlib.Core.Bool.{Bool, true, false, not, ◌&&◌}
use mathlib.Core.List.{List, [], ◌∷◌, ◌++◌, map}
use native.Mathlib.Decide.{dec_lt}
use native.Mathlib.Omega.{arith}
use borrow.Author.Tests.{not-true}
use Rattle.lists.specs.Lists.{same, range, every}
use Rattle.lists.proofs.Tests.{false-true, and_left}
use Rattle.lists.proofs.Ranges.{every-below}
use Rattle.process.specs.Steps.{Step}
use Rattle.net.specs.Image.{place_count_of, transition_count, is_header_right}
use Rattle.net.specs.Firing as Firing
use Rattle.net.specs.Firing.{Outcome, is_marking}
use Rattle.net.proofs.Steps.{step-none, turn-refused, fire-as}
use Rattle.fidelity.specs.Calls.{Call, fire, World, perform, called_on, after}
use Rattle.fidelity.specs.Demand.{is_answer_accepted, answers_from, CanFire}

every_first : {A : Type 0} (p : A → Bool) (xs : List A) (x : A) → every p (xs ++ (x ∷ [])) ≡ true → every p xs ≡ true
unfolding every
every_first p [] x h = refl
every_first p (y ∷ xs) x h = go (p y) h (every_first p xs x)
  where
    go : (b : Bool) → (b && every p (xs ++ (x ∷ []))) ≡ true → (every p (xs ++ (x ∷ [])) ≡ true → every p xs ≡ true) → (b && every p xs) ≡ true
    go true h f = f h
    go false h f = h

module _ (w image : List ℕ) where
  -- where all calls are accepted in the end, those before were
  first-accepted : (cs : List Call) (v : World) → every is_answer_accepted (after w image v cs).answers ≡ true → every is_answer_accepted v.answers ≡ true
  unfolding after
  first-accepted [] v h = h
  first-accepted (c ∷ cs) v h =
      every_first is_answer_accepted v.answers (perform w image v.marking c).answer (first-accepted cs (called_on w image v c) h)

  -- the number is refused at the marking
  abbrev Refused : List ℕ → ℕ → Type 0
  Refused marking number = same (Firing.fire image marking number).cause 0 ≡ false

  refused-past : (marking : List ℕ) (number : ℕ) → transition_count image ≤ number → Refused marking number
  unfolding same Firing.fire
  refused-past marking number h = go (is_header_right image) refl (is_marking (place_count_of image) marking) refl
    where
      go : (a : Bool) → is_header_right image ≡ a → (b : Bool) → is_marking (place_count_of image) marking ≡ b → Refused marking number
      go false p b q = rw p
      go true p false q = rw (p, q)
      go true p true q =
          ap (λ (o : Outcome). same o.cause 0)
          (fire-as image marking number p q ∙ turn-refused image marking number [] 14 (step-none image marking number h))

  -- no number of the image is accepted at this marking
  unfoldable pub nothing_fires : List ℕ → Bool
  nothing_fires marking = every (λ number. not (same (Firing.fire image marking number).cause 0)) (range (transition_count image))

  all-refused : (marking : List ℕ) → nothing_fires marking ≡ true → (number : ℕ) → Refused marking number
  unfolding nothing_fires
  all-refused marking h number = go (dec_lt number (transition_count image))
    where
      go : Dec (number < transition_count image) → Refused marking number
      go (yes l) =
          not-true (same (Firing.fire image marking number).cause 0)
          (every-below (λ number. not (same (Firing.fire image marking number).cause 0)) (transition_count image) h number l)
      go (no n) = refused-past marking number (omega arith)

  pub none-can-fire : (v : World) (σ : Step) → nothing_fires v.marking ≡ true → CanFire w image v σ → ⊥
  unfolding every after
  none-can-fire v σ h C = go C.before C.accepted
    where
      first : (number : ℕ) (cs : List Call) → every is_answer_accepted (answers_from w image v (fire number ∷ cs)) ≡ true → ⊥
      first number cs e = begin (first-accepted cs (called_on w image (record { marking = v.marking; plain = v.plain; answers = [] }) (fire number)) e)
        where
          begin : every is_answer_accepted ((perform w image v.marking (fire number)).answer ∷ []) ≡ true → ⊥
          begin q = false-true (all-refused v.marking h number) (and_left (same (Firing.fire image v.marking number).cause 0) true q)

      go : (before : List ℕ) → every is_answer_accepted (answers_from w image v (map fire (before ++ (C.number ∷ [])))) ≡ true → ⊥
      go [] e = first C.number [] e
      go (number ∷ before) e = first number (map fire (before ++ (C.number ∷ []))) e
