-- Numbers that fire in turn at a marking of a built net are accepted one by one as calls: the header of its image is right, and each firing leaves a marking.
use Prim.Native.Nat.{ℕ}
use mathlib.Core.Path.{◌≡◌, refl, sym, ap, ◌∙◌, subst}
use mathlib.Core.Bool.{true}
use mathlib.Core.List.{List, [], ◌∷◌, ◌++◌, map}
use Rattle.lists.specs.Lists.{same, every}
use Rattle.scheme.specs.Scheme.{scheme}
use Rattle.table.specs.Accepted.{Accepted}
use Rattle.process.specs.States.{State}
use Rattle.net.specs.Firing as Firing
use Rattle.net.specs.Firing.{Outcome, outcome, in_turn, is_marking}
use Rattle.net.proofs.Steps.{turn-made, turn-refused, turn_last}
use Rattle.net.proofs.Outcomes.{turn-keeps}
use Rattle.net.proofs.Built.{fire-built}
use Rattle.readback.specs.Configurations.{Configuration}
use Rattle.fidelity.specs.Calls.{fire, Answer, Plain, of_outcome, hears, advance, World, after}
use Rattle.fidelity.specs.Demand.{is_answer_accepted}
use Rattle.fidelity.specs.Inner.Standing.{marking_of}
use Rattle.fidelity.proofs.Built as Built
use Rattle.fidelity.proofs.Turns.{image, S, U, E, image-is, Acts, goes, stops, has-cause}
use Rattle.fidelity.proofs.Worlds.{net, Standing, act, every-snoc}

module _ (w : List ℕ) (A : Accepted (scheme w)) where
  abbrev marks : Configuration → List ℕ
  marks c = marking_of (S w A) (U w A) c

  pub fire-is : (c : Configuration) (k : ℕ) → is_marking (net w A).places (marks c) ≡ true
      → Firing.fire (image w) (marks c) k ≡ in_turn (image w) (marks c) (k ∷ [])
  fire-is c k h =
      subst (λ (i : List ℕ). Firing.fire i (marks c) k ≡ in_turn i (marks c) (k ∷ [])) (sym (image-is w A))
      (fire-built (net w A) (Built.net-ascending (S w A) (U w A) A (E w A)) (marks c) k h)

  abbrev at : List ℕ → Plain → List Answer → World
  at m p xs = record { marking = m; plain = p; answers = xs }

  -- the answers so far, and those of the numbers fired from here on
  abbrev answers_of : World → List ℕ → List Answer
  answers_of v ns = (after w (image w) v (map fire ns)).answers

  abbrev fired_by : Plain → List Answer → ℕ → Outcome → World
  fired_by p xs k o = at o.marking (hears w (image w) p (fire k) (of_outcome o).answer) (xs ++ ((of_outcome o).answer ∷ []))

  -- what numbers that fire in turn at a configuration's marking answer
  abbrev AllAccepted : List ℕ → Type 0
  AllAccepted ns =
      (c : Configuration) (s : State) → Standing w A c s → is_marking (net w A).places (marks c) ≡ true → (in_turn (image w) (marks c) ns).cause ≡ 0
      → (p : Plain) (xs : List Answer) → every is_answer_accepted xs ≡ true → every is_answer_accepted (answers_of (at (marks c) p xs) ns) ≡ true

  pub all-accepted : (ns : List ℕ) → AllAccepted ns
  unfolding after in_turn same
  all-accepted [] c s R m h p xs q = q
  all-accepted (k ∷ ns) c s R m h p xs q = go (act w A c s k R) (all-accepted ns)
    where
      go : Acts w A c s 0 k → AllAccepted ns → every is_answer_accepted (answers_of (fired_by p xs k (Firing.fire (image w) (marks c) k)) ns) ≡ true
      go (stops cause o e) ih = absurd (has-cause o (sym (ap (λ (o : Outcome). o.cause) (turn-refused (image w) (marks c) k ns cause e)) ∙ h))
      go (goes d N e o b) ih =
          subst (λ (o : Outcome). every is_answer_accepted (answers_of (fired_by p xs k o) ns) ≡ true) (sym (fire-is c k m ∙ last))
          (ih d (advance w (image w) s k) N next rest (hears w (image w) p (fire k) answer) (xs ++ (answer ∷ [])) (every-snoc is_answer_accepted xs answer q refl))
        where
          answer : Answer
          answer = (of_outcome (outcome 0 1 (marks d))).answer

          last : in_turn (image w) (marks c) (k ∷ []) ≡ outcome 0 1 (marks d)
          last = turn_last (image w) (marks c) k (marks d) e

          next : is_marking (net w A).places (marks d) ≡ true
          next = ap (λ (o : Outcome). is_marking (net w A).places o.marking) (sym last) ∙ turn-keeps (net w A).places (image w) (marks c) (k ∷ []) m

          rest : (in_turn (image w) (marks d) ns).cause ≡ 0
          rest = sym (ap (λ (o : Outcome). o.cause) (turn-made (image w) (marks c) k ns (marks d) e)) ∙ h
