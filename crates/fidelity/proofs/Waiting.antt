-- At a marking that stands for a state, every open step can be fired by number, after at most B bookkeeping numbers.
use Prim.Native.Nat.{ℕ, suc, ◌≤◌, ◌<◌}
use mathlib.Core.Path.{◌≡◌, refl, ap, ◌∙◌, subst}
use mathlib.Core.Bool.{true}
use mathlib.Core.List.{List, [], ◌∷◌, ◌++◌}
use native.Mathlib.Omega.{arith}
use lib.ListN.{length, get_or}
use Rattle.lists.specs.Lists.{every}
use Rattle.lists.proofs.Tests.{and_intro}
use Rattle.scheme.specs.Scheme.{scheme}
use Rattle.scheme.specs.Words.{bounds}
use Rattle.table.specs.Accepted.{Accepted}
use Rattle.process.specs.States.{State}
use Rattle.process.specs.Steps.{Step, is_step_open}
use Rattle.process.specs.Labels.{step_of, label_of}
use Rattle.net.specs.Image.{Label, label_at, is_bookkeeping}
use Rattle.net.specs.Firing.{Outcome, made, step, in_turn}
use Rattle.net.proofs.Steps.{turn-made, turn_last}
use Rattle.places.specs.Image.{net_of, image_of}
use Rattle.places.specs.Transitions.{Description, descriptions}
use Rattle.readback.specs.Configurations.{Configuration}
use Rattle.fidelity.specs.Calls.{label_words, is_quiet, step_at}
use Rattle.fidelity.specs.Inner.Marks.{after, Fits, WellFormed}
use Rattle.fidelity.specs.Inner.Shapes.{Described}
use Rattle.fidelity.specs.Inner.Standing.{Shows, marking_of}
use Rattle.fidelity.specs.Inner.Runs.{quiet, AllQuiet, Run, done, more}
use Rattle.readback.proofs.Elements.{element-position}
use Rattle.fidelity.proofs.Firing.{well-formed-after}
use Rattle.fidelity.proofs.Shapes.{shaped}
use Rattle.fidelity.proofs.Opening.{test-open}
use Rattle.fidelity.proofs.Live.{Reachable, live}
use Rattle.fidelity.proofs.Described.{described-listed}
use Rattle.fidelity.proofs.Built.{nothing, description_at, label_is, fits-fires}
use Rattle.fidelity.proofs.Turns.{image, S, U, E}

module _ (w : List ℕ) (A : Accepted (scheme w)) where
  -- a number that fires a description which fits
  pub record Number (t : Description) (c : Configuration) : Type 0 where
    pub number : ℕ
    pub label : label_at (image w) number ≡ t.label
    pub steps : step (image w) (marking_of (S w A) (U w A) c) number ≡ made (marking_of (S w A) (U w A) (after (S w A) t c))

  pub number_of : {t : Description} (c : Configuration) → WellFormed (S w A) (U w A) c → Described (S w A) (U w A) t → Fits (S w A) t c → Number t c
  unfolding image_of net_of
  number_of {t} c W D f = go (element-position nothing (descriptions (S w A) (U w A)) (described-listed (S w A) (U w A) A (E w A) D))
    where
      at : (k : ℕ) → k < length (descriptions (S w A) (U w A)) → (u : Description) → description_at (S w A) (U w A) A (E w A) k ≡ u → Fits (S w A) u c
          → Number u c
      at k l u q g =
          subst (λ (v : Description). Fits (S w A) v c → Number v c) q
          (λ h. record { number = k; label = label_is (S w A) (U w A) A (E w A) k l; steps = fits-fires (S w A) (U w A) A (E w A) k l c W h }) g

      go : (k : ℕ) × (k < length (descriptions (S w A) (U w A))) × (get_or (descriptions (S w A) (U w A)) k nothing ≡ t) → Number t c
      go (k, l, q) = at k l t q f

  number-quiet : {t : Description} {c : Configuration} (n : Number t c) → quiet t ≡ true → is_quiet w (image w) n.number ≡ true
  number-quiet n q = ap (λ (λ' : Label). is_bookkeeping λ'.kind) n.label ∙ q

  -- the numbers of a run of bookkeeping
  pub record Before (c d : Configuration) (size : ℕ) : Type 0 where
    pub numbers : List ℕ
    pub count : length numbers ≡ size
    pub quietly : every (is_quiet w (image w)) numbers ≡ true
    pub plays : (rest : List ℕ)
        → (in_turn (image w) (marking_of (S w A) (U w A) c) (numbers ++ rest)).cause ≡ (in_turn (image w) (marking_of (S w A) (U w A) d) rest).cause
    pub formed : WellFormed (S w A) (U w A) d

  numbers_of : {c d : Configuration} {ts : List Description} → WellFormed (S w A) (U w A) c → Run (S w A) (U w A) c ts d → AllQuiet ts → Before c d (length ts)
  unfolding every
  numbers_of W done q = record { numbers = []; count = refl; quietly = refl; plays = λ rest. refl; formed = W }
  numbers_of {c} {d} W (more {t = t} {ts = ts} D f r) q =
      build (number_of c W D f) (numbers_of (well-formed-after (S w A) (U w A) c t W (shaped (S w A) (U w A) A D) f) r q.1)
    where
      build : Number t c → Before (after (S w A) t c) d (length ts) → Before c d (suc (length ts))
      build n b = record {
        numbers = n.number ∷ b.numbers;
        count = ap suc b.count;
        quietly = and_intro (is_quiet w (image w) n.number) (every (is_quiet w (image w)) b.numbers) (number-quiet n q.0) b.quietly;
        plays = λ rest.
            ap (λ (o : Outcome). o.cause)
            (turn-made (image w) (marking_of (S w A) (U w A) c) n.number (b.numbers ++ rest) (marking_of (S w A) (U w A) (after (S w A) t c)) n.steps)
            ∙ b.plays rest;
        formed = b.formed;
      }

  bounds-are : (S w A).bounds ≡ bounds w
  unfolding scheme
  bounds-are = refl

  -- a step that numbers fired in turn at a marking lead to, `few` bookkeeping ones before it
  pub record Awaits (marking : List ℕ) (step : Step) : Type 0 where
    pub before : List ℕ
    pub number : ℕ
    pub few : length before ≤ bounds w
    pub quiet : every (is_quiet w (image w)) before ≡ true
    pub label : label_words w (image w) number ≡ label_of (scheme w) step
    pub names : step_at w (image w) number ≡ step
    pub fires : (in_turn (image w) marking (before ++ (number ∷ []))).cause ≡ 0

  pub can-fire : (c : Configuration) (s : State) → Shows (S w A) (U w A) c s → (σ : Step) → is_step_open (S w A) s σ ≡ true
      → Awaits (marking_of (S w A) (U w A) c) σ
  can-fire c s R σ h = go (live (S w A) (U w A) A (E w A) c s σ R (test-open (S w A) σ s h))
    where
      build : (r : Reachable (S w A) (U w A) A (E w A) c σ) → (b : Before c r.last (length r.firings)) → Number r.fireable.firing r.last
          → Awaits (marking_of (S w A) (U w A) c) σ
      build r b n = record {
        before = b.numbers;
        number = n.number;
        few = omega (arith, b.count, r.few, bounds-are);
        quiet = b.quietly;
        label = ap (λ (λ' : Label). λ'.kind ∷ λ'.a ∷ λ'.b ∷ []) n.label ∙ r.fireable.label;
        names = ap (λ (λ' : Label). step_of (S w A) λ'.kind λ'.a λ'.b) n.label ∙ r.fireable.names;
        fires = b.plays (n.number ∷ []) ∙ ap (λ (o : Outcome). o.cause)
            (turn_last (image w) (marking_of (S w A) (U w A) r.last) n.number
            (marking_of (S w A) (U w A) (after (S w A) r.fireable.firing r.last)) n.steps);
      }

      next : (r : Reachable (S w A) (U w A) A (E w A) c σ) → Before c r.last (length r.firings) → Awaits (marking_of (S w A) (U w A) c) σ
      next r b = build r b (number_of r.last b.formed r.fireable.described r.fireable.fits)

      go : Reachable (S w A) (U w A) A (E w A) c σ → Awaits (marking_of (S w A) (U w A) c) σ
      go r = next r (numbers_of R.formed r.run r.quietly)
