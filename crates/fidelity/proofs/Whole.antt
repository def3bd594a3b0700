-- Demand 3 from its clauses. Two facts come from elsewhere: states alike but for the names of private values have the same words, and the image is small.
use Prim.Native.Nat.{ℕ, ◌+◌, ◌^◌, ◌≤◌, ◌<◌}
use mathlib.Core.Path.{◌≡◌, ap, ◌∙◌, subst}
use mathlib.Core.Logic.{inl}
use mathlib.Core.Bool.{true}
use mathlib.Core.Option.{some}
use mathlib.Core.List.{List}
use lib.ListN.{length}
use borrow.Author.Tests.{le-ltb}
use Rattle.scheme.specs.Words.{publics}
use Rattle.scheme.specs.Scheme.{Scheme, scheme}
use Rattle.table.specs.Accepted.{Accepted}
use Rattle.process.specs.States.{State, Renamed}
use Rattle.process.specs.StateWords.{state_words}
use Rattle.net.specs.Firing.{is_marking}
use Rattle.places.specs.Places.{places}
use Rattle.places.specs.Image.{net_with}
use Rattle.readback.specs.Configurations.{Configuration, state_shown}
use Rattle.readback.specs.Reading.{reading_back, words}
use Rattle.fidelity.specs.Calls.{Call, world}
use Rattle.fidelity.specs.Demand.{Demand3}
use Rattle.fidelity.specs.Inner.Standing.{Shows, Stands}
use Rattle.fidelity.proofs.Tables.{no-thread}
use Rattle.fidelity.proofs.Turns.{image, S, U}
use Rattle.fidelity.proofs.Histories.{played-marking, world-played}
use Rattle.fidelity.proofs.Clauses.{no-16, all-lawful, rows_short, world-stands, steps-live, shown-renamed}
use Rattle.fidelity.proofs.ReadBack.{reads-back}

-- states alike but for the names of private values have the same words
abbrev pub SameWords : Scheme → Type 0
SameWords S =
    (s t : State) → Renamed S s t → ((x : ℕ) → x < S.publics → s.value x ≡ some x) → ((x : ℕ) → x < S.publics → t.value x ≡ some x)
    → state_words S s ≡ state_words S t

module _ (w : List ℕ) (A : Accepted (scheme w)) where
  shown-public : (c : Configuration) (s : State) (counter : ℕ) → Shows (S w A) (U w A) c s → (x : ℕ) → x < (scheme w).publics
      → (state_shown (scheme w) counter c).value x ≡ some x
  unfolding state_shown
  shown-public c s counter R x l =
      rw (le-ltb ((scheme w).thread_of_name x) (scheme w).threads (no-thread (scheme w) A x (inl l))) (R.formed.publics x l)

  world-marking : (cs : List Call) → is_marking (length (places (S w A) (U w A))) (world w (image w) cs).marking ≡ true
  unfolding net_with
  world-marking cs = played-marking w A (world w (image w) cs) (world-played w A cs)

  pub world-reads : SameWords (scheme w) → (cs : List Call)
      → reading_back w (world w (image w) cs).marking ≡ words (state_words (scheme w) (world w (image w) cs).plain.state)
  world-reads alike cs = go (world-stands w A cs)
    where
      go : Stands (S w A) (U w A) (world w (image w) cs).marking (world w (image w) cs).plain.state
          → reading_back w (world w (image w) cs).marking ≡ words (state_words (scheme w) (world w (image w) cs).plain.state)
      go T =
          let n : ℕ = (scheme w).publics + (U w A).privates in
          ap (reading_back w) T.is
          ∙ reads-back w A T.configuration T.shows.formed
          (subst (λ (m : List ℕ). is_marking (length (places (S w A) (U w A))) m ≡ true) T.is (world-marking cs))
          ∙ ap words
          (alike (state_shown (scheme w) n T.configuration) (world w (image w) cs).plain.state
          (shown-renamed w A T.configuration (world w (image w) cs).plain.state n T.shows)
          (shown-public T.configuration (world w (image w) cs).plain.state n T.shows) T.shows.public)

  pub demand-3 : SameWords (scheme w) → length (image w) ≤ (length w + publics w) ^ 4 → (cs : List Call) → Demand3 w (image w) cs
  demand-3 alike small cs = record {
    safe = no-16 w A cs;
    reads = world-reads alike cs;
    steps = all-lawful w A cs;
    live = steps-live w A cs;
    settles = rows_short w A cs;
    small = small;
  }
