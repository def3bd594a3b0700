-- Four of the clauses of demand 3, over every list of calls: no call answers 16, each firing made is bookkeeping or an open step, open steps can be fired
-- within B bookkeeping firings, and no more than 2B bookkeeping firings are in a row. The marking stands for the plain process's state.
use Prim.Native.Nat.{ℕ, ◌*◌}
use mathlib.Core.Path.{◌≡◌, refl, sym, subst}
use mathlib.Core.Bool.{true, not}
use mathlib.Core.List.{List, [], ◌∷◌, ◌++◌, map}
use Rattle.lists.specs.Lists.{same, every}
use Rattle.scheme.specs.Words.{bounds}
use Rattle.scheme.specs.Scheme.{scheme}
use Rattle.table.specs.Accepted.{Accepted}
use Rattle.process.specs.States.{State, start, Renamed}
use Rattle.process.specs.Steps.{Step, is_step_open}
use Rattle.net.specs.Firing.{is_marking}
use Rattle.readback.specs.Configurations.{Configuration, state_shown}
use Rattle.fidelity.specs.Calls.{Call, fire, World, after, world}
use Rattle.fidelity.specs.Demand.{is_answer_accepted, lawful, rows_within, CanFire}
use Rattle.fidelity.specs.Inner.Standing.{Shows, marking_of, Stands}
use Rattle.fidelity.proofs.Alike.{alike-renamed}
use Rattle.fidelity.proofs.Turns.{image, S, U}
use Rattle.fidelity.proofs.Waiting.{Awaits, can-fire}
use Rattle.fidelity.proofs.Worlds.{net}
use Rattle.fidelity.proofs.Histories.{from_start, played-stands, played-marking, world-played}
use Rattle.fidelity.proofs.Accepting.{all-accepted}

module _ (w : List ℕ) (A : Accepted (scheme w)) where
  pub no-16 : (cs : List Call) → every (λ a. not (same a.cause 16)) (world w (image w) cs).answers ≡ true
  no-16 cs = (world-played w A cs).safe

  pub all-lawful : (cs : List Call) → lawful w (image w) (start (scheme w)) (world w (image w) cs).plain.made ≡ true
  all-lawful cs = (from_start w A (world w (image w) cs).plain.made (world-played w A cs).fired).lawfully

  bounds-are : (scheme w).bounds ≡ bounds w
  unfolding scheme
  bounds-are = refl

  pub rows_short : (cs : List Call) → rows_within w (image w) (2 * bounds w) 0 (world w (image w) cs).plain.made ≡ true
  rows_short cs =
      subst (λ (b : ℕ). rows_within w (image w) (2 * b) 0 (world w (image w) cs).plain.made ≡ true) bounds-are
      (from_start w A (world w (image w) cs).plain.made (world-played w A cs).fired).rows

  pub world-stands : (cs : List Call) → Stands (S w A) (U w A) (world w (image w) cs).marking (world w (image w) cs).plain.state
  world-stands cs = played-stands w A (world w (image w) cs) (world-played w A cs)

  pub steps-live : (cs : List Call) (σ : Step) → is_step_open (scheme w) (world w (image w) cs).plain.state σ ≡ true
      → CanFire w (image w) (world w (image w) cs) σ
  unfolding every
  steps-live cs σ h = go (world-stands cs)
    where
      v : World
      v = world w (image w) cs

      go : Stands (S w A) (U w A) v.marking v.plain.state → CanFire w (image w) v σ
      go T = build (can-fire w A T.configuration v.plain.state T.shows σ h)
        where
          marking : is_marking (net w A).places (marking_of (S w A) (U w A) T.configuration) ≡ true
          marking = subst (λ (m : List ℕ). is_marking (net w A).places m ≡ true) T.is (played-marking w A v (world-played w A cs))

          build : Awaits w A (marking_of (S w A) (U w A) T.configuration) σ → CanFire w (image w) v σ
          build C = record {
            before = C.before;
            number = C.number;
            few = C.few;
            quiet = C.quiet;
            label = C.label;
            names = C.names;
            accepted =
                subst (λ (m : List ℕ). every is_answer_accepted (after w (image w) (record { marking = m; plain = v.plain; answers = [] })
                (map fire (C.before ++ (C.number ∷ [])))).answers ≡ true) (sym T.is)
                (all-accepted w A (C.before ++ (C.number ∷ [])) T.configuration v.plain.state T.shows marking C.fires v.plain [] refl);
          }

  -- the state that the configuration shows is the plain process's, but for the names of private values
  pub shown-renamed : (c : Configuration) (s : State) (counter : ℕ) → Shows (S w A) (U w A) c s → Renamed (scheme w) (state_shown (scheme w) counter c) s
  unfolding state_shown
  shown-renamed c s counter R = alike-renamed (scheme w) (state_shown (scheme w) counter c) s R.nodes R.alike
