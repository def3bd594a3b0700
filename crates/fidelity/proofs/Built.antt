-- Firing by number on a built net: a number that fires follows the plain process, and no number is refused with 16.
use Prim.Native.Nat.{ℕ, ◌≤◌, ◌<◌}
use mathlib.Core.Path.{◌≡◌, refl, sym, ap, ◌∙◌, subst}
use mathlib.Core.Logic.{◌⊎◌, inl, inr}
use mathlib.Core.Bool.{Bool, true, false, ◌||◌}
use mathlib.Core.List.{List, [], ◌∷◌, map}
use native.Mathlib.Omega.{arith}
use native.Mathlib.Decide.{dec_le}
use lib.ListN.{length, get_or, length-map}
use Rattle.std.proofs.lemmas.List.{get_or-map}
use Rattle.lists.specs.Lists.{positions, every, ascends}
use Rattle.lists.proofs.Tests.{and_intro}
use Rattle.lists.proofs.Positions.{positions-rise}
use Rattle.scheme.specs.Scheme.{Scheme}
use Rattle.table.specs.Accepted.{Accepted}
use Rattle.process.specs.States.{State, start}
use Rattle.process.specs.Steps.{is_step_open}
use Rattle.process.specs.Labels.{step_of}
use Rattle.net.specs.Image.{Label, label_at, label_of, is_bookkeeping}
use Rattle.net.specs.Firing as Firing
use Rattle.net.specs.Firing.{made, refused, step, is_enabled, initial_marking}
use Rattle.net.specs.Net.{Net, Transition, transition_at, blank, encode, ascending, is_ascending}
use Rattle.net.proofs.Steps.{step-off, step-made}
use Rattle.net.proofs.Encode.{label-at, step-at, step_past, initial-marking}
use Rattle.places.specs.Values.{Values}
use Rattle.places.specs.Places.{places, is_initial}
use Rattle.places.specs.Transitions.{Description, skip, is_input, is_output, descriptions}
use Rattle.places.specs.Image.{transition_of, net_with}
use Rattle.readback.specs.Configurations.{Configuration}
use Rattle.fidelity.specs.Inner.Marks.{after, Fits, WellFormed, Shaped}
use Rattle.fidelity.specs.Inner.Shapes.{Described, EnoughValues}
use Rattle.fidelity.specs.Inner.Standing.{advanced, Shows, marking_of, Stands}
use Rattle.fidelity.specs.Inner.Runs.{quiet, step_named}
use Rattle.fidelity.specs.Inner.Starting.{start_configuration}
use Rattle.readback.proofs.Elements.{element-at}
use Rattle.fidelity.proofs.Firing as One
use Rattle.fidelity.proofs.Shapes.{shaped}
use Rattle.fidelity.proofs.Following as Following
use Rattle.fidelity.proofs.Fireable.{opened}
use Rattle.fidelity.proofs.Described.{listed-described}
use Rattle.fidelity.proofs.Numbers.{numbers-enabled, enabled-numbers, safe-numbers, moved-numbers, initial-numbers}
use Rattle.fidelity.proofs.Starting.{start-shows}

every-mapped : {A B : Type 0} (p : B → Bool) (f : A → B) (xs : List A) → ((x : A) → p (f x) ≡ true) → every p (map f xs) ≡ true
unfolding every
every-mapped p f [] h = refl
every-mapped p f (x ∷ xs) h = rw (h x) (every-mapped p f xs h)

abbrev pub nothing : Description
nothing = record { label = label_of 0 0 0; moves = []; tests = []; command = skip }

module _ (S : Scheme) (U : Values) (A : Accepted S) (E : EnoughValues S U) where
  abbrev pub net : Net
  net = net_with S U

  abbrev pub image : List ℕ
  image = encode net

  pub net-ascending : is_ascending net ≡ true
  unfolding is_ascending net_with
  net-ascending =
      and_intro (ascends (length (places S U)) 0 (positions (is_initial S U) (places S U)))
      (every (ascending (length (places S U))) (map (transition_of S U) (descriptions S U)))
      (positions-rise (is_initial S U) (places S U))
      (every-mapped (ascending (length (places S U))) (transition_of S U) (descriptions S U)
      (λ d. and_intro (ascends (length (places S U)) 0 (positions (is_input S d) (places S U)))
      (ascends (length (places S U)) 0 (positions (is_output S d) (places S U)))
      (positions-rise (is_input S d) (places S U))
      (positions-rise (is_output S d) (places S U))))

  -- the description of a number
  abbrev pub description_at : ℕ → Description
  description_at k = get_or (descriptions S U) k nothing

  pub transition-total : length net.transitions ≡ length (descriptions S U)
  unfolding net_with
  transition-total = length-map (descriptions S U) (transition_of S U)

  module _ (k : ℕ) (l : k < length (descriptions S U)) where
    inside : k < length net.transitions
    inside = rw transition-total l

    pub described-at : Described S U (description_at k)
    described-at = listed-described S U A E (element-at nothing (descriptions S U) k l)

    shaped-at : Shaped S U (description_at k)
    shaped-at = shaped S U A described-at

    transition-is : transition_at net k ≡ transition_of S U (description_at k)
    unfolding net_with
    transition-is = get_or-map (transition_of S U) (descriptions S U) k nothing blank l

    pub label_is : label_at image k ≡ (description_at k).label
    label_is = label-at net k inside ∙ ap (λ (t : Transition). t.label) transition-is

    abbrev ins : List ℕ
    ins = positions (is_input S (description_at k)) (places S U)

    abbrev outs : List ℕ
    outs = positions (is_output S (description_at k)) (places S U)

    step_is : (m : List ℕ) → step image m k ≡ Firing.step_of m ins outs
    step_is m = step-at net k inside net-ascending m ∙ ap (λ (t : Transition). Firing.step_of m t.inputs t.outputs) transition-is

    -- a number whose description fits fires
    pub fits-fires : (c : Configuration) → WellFormed S U c → Fits S (description_at k) c
        → step image (marking_of S U c) k ≡ made (marking_of S U (after S (description_at k) c))
    fits-fires c W f =
        step_is (marking_of S U c)
        ∙ step-made (marking_of S U c) ins outs (enabled-numbers S U A (description_at k) c (One.enabled S U c (description_at k) f W shaped-at))
        (safe-numbers S U A (description_at k) c (One.safe S U c (description_at k) f W shaped-at))
        ∙ ap made (moved-numbers S U A (description_at k) c W shaped-at f)

    -- a number that is refused is not enabled, so 15
    cases : (c : Configuration) → WellFormed S U c → Fits S (description_at k) c ⊎ (step image (marking_of S U c) k ≡ refused 15)
    cases c W = go (is_enabled (marking_of S U c) ins) refl
      where
        go : (b : Bool) → is_enabled (marking_of S U c) ins ≡ b → Fits S (description_at k) c ⊎ (step image (marking_of S U c) k ≡ refused 15)
        go true e = inl (One.fits S U c (description_at k) W shaped-at (numbers-enabled S U A (description_at k) c e))
        go false e = inr (step_is (marking_of S U c) ∙ step-off (marking_of S U c) ins outs e)

  -- ---- any number at a marking that stands for a state

  -- what a number does: it fires and its description fits, or it is refused, with 14 or 15
  pub data Does (c : Configuration) (k : ℕ) : Type 0 where
    fires : k < length (descriptions S U) → Fits S (description_at k) c
        → step image (marking_of S U c) k ≡ made (marking_of S U (after S (description_at k) c)) → Does c k
    past : step image (marking_of S U c) k ≡ refused 14 → Does c k
    idle : step image (marking_of S U c) k ≡ refused 15 → Does c k

  pub does : (c : Configuration) → WellFormed S U c → (k : ℕ) → Does c k
  does c W k = go (dec_le (length (descriptions S U)) k)
    where
      inner : (l : k < length (descriptions S U)) → Fits S (description_at k) c ⊎ (step image (marking_of S U c) k ≡ refused 15) → Does c k
      inner l (inl f) = fires l f (fits-fires k l c W f)
      inner l (inr e) = idle e

      go : Dec (length (descriptions S U) ≤ k) → Does c k
      go (yes h) = past (step_past net (marking_of S U c) k (rw transition-total h))
      go (no h) = let l : k < length (descriptions S U) = omega arith in inner l (cases k l c W)

  -- a firing keeps what joins the marking to the plain process, and is bookkeeping or an open step
  pub fired-shows : (c : Configuration) (s : State) → Shows S U c s → (k : ℕ) → k < length (descriptions S U) → Fits S (description_at k) c
      → Shows S U (after S (description_at k) c) (advanced S (label_at image k) s)
  fired-shows c s R k l f =
      subst (λ (λ' : Label). Shows S U (after S (description_at k) c) (advanced S λ' s)) (sym (label_is k l)) (Following.step S U A E c s R (described-at k l) f)

  pub fired-lawful : (c : Configuration) (s : State) → Shows S U c s → (k : ℕ) → k < length (descriptions S U) → Fits S (description_at k) c
      → (is_bookkeeping (label_at image k).kind || is_step_open S s (step_of S (label_at image k).kind (label_at image k).a (label_at image k).b)) ≡ true
  fired-lawful c s R k l f =
      subst (λ (λ' : Label). (is_bookkeeping λ'.kind || is_step_open S s (step_of S λ'.kind λ'.a λ'.b)) ≡ true) (sym (label_is k l))
      (go (quiet (description_at k)) refl)
    where
      go : (b : Bool) → quiet (description_at k) ≡ b → (b || is_step_open S s (step_named S (description_at k))) ≡ true
      go true e = refl
      go false e = opened S U A E c s R (described-at k l) f e

  -- ---- the start

  pub initial-is : initial_marking image ≡ marking_of S U (start_configuration S)
  unfolding net_with
  initial-is = initial-marking net ∙ initial-numbers S U A

  pub initial-stands : Stands S U (initial_marking image) (start S)
  initial-stands = record { configuration = start_configuration S; shows = start-shows S U A; is = initial-is }
