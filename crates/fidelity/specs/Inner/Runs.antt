-- Open steps as facts, and firings in a row.
use Rattle.std.specs.Prelude.{ℕ, ◌≡◌, Bool, true, List, [], ◌∷◌}
use Rattle.std.proofs.Math.Option.{some}
use Rattle.scheme.specs.Scheme.{Scheme, new, call, silent, send, receive}
use Rattle.process.specs.States.{State}
use Rattle.process.specs.Steps.{Step, new_step, silent_step, communication, step_call}
use Rattle.net.specs.Image.{is_bookkeeping}
use Rattle.process.specs.Labels.{step_of}
use Rattle.places.specs.Values.{Values}
use Rattle.places.specs.Transitions.{Description}
use Rattle.readback.specs.Configurations.{Configuration}
use Rattle.fidelity.specs.Inner.Marks.{after, Fits}
use Rattle.fidelity.specs.Inner.Shapes.{Described}

-- the description is bookkeeping
abbrev pub quiet : Description → Bool
quiet t = is_bookkeeping t.label.kind

abbrev pub AllQuiet : List Description → Type 0
AllQuiet [] = Unit {0}
AllQuiet (t ∷ ts) = (quiet t ≡ true) × AllQuiet ts

module _ (S : Scheme) where
  -- the step that the description's label names
  abbrev pub step_named : Description → Step
  step_named t = step_of S t.label.kind t.label.a t.label.b

  -- the step is open: its threads stand at its nodes, and both channels have one value
  pub data Open : Step → State → Type 0 where
    open-new : {s : State} {n : ℕ} (r l : ℕ) → S.node n ≡ new r l → s.node (S.thread n) ≡ n → Open (new_step n) s
    open-call : {s : State} {n : ℕ} (d : ℕ) → S.node n ≡ call d → s.node (S.thread n) ≡ n → Open (step_call n) s
    open-silent : {s : State} {b : ℕ} (l : ℕ) → S.branch b ≡ silent l → s.node (S.thread (S.home b)) ≡ S.home b → Open (silent_step b) s
    open-communication : {s : State} {b r : ℕ} (a z l x y m i : ℕ) → S.branch b ≡ send a z l → S.branch r ≡ receive x y m
        → (S.thread (S.home b) ≡ S.thread (S.home r) → ⊥) → s.node (S.thread (S.home b)) ≡ S.home b → s.node (S.thread (S.home r)) ≡ S.home r
        → s.value a ≡ some i → s.value x ≡ some i → Open (communication b r) s

module _ (S : Scheme) (U : Values) where
  -- descriptions that fit in turn lead from one configuration to another
  pub data Run : Configuration → List Description → Configuration → Type 0 where
    done : {c : Configuration} → Run c [] c
    more : {c d : Configuration} {t : Description} {ts : List Description} → Described S U t → Fits S t c → Run (after S t c) ts d → Run c (t ∷ ts) d
