-- A thread at a New finds a free value in every marking that stands for a state: the marking is that of a well-formed configuration, in which fewer names have
-- values than there are private ones.
use Prim.Native.Nat.{ℕ}
use mathlib.Core.Path.{◌≡◌, refl, ap, ◌∙◌}
use mathlib.Core.Bool.{Bool, true, false, not}
use mathlib.Core.List.{List, [], ◌∷◌}
use lib.ListN.{length}
use Rattle.lists.specs.Lists.{pick}
use Rattle.lists.proofs.Tests.{same-yes}
use Rattle.scheme.specs.Scheme.{scheme, new}
use Rattle.table.specs.Causes.{cause}
use Rattle.table.specs.Accepted.{Accepted}
use Rattle.table.proofs.Accepted.{accepted}
use Rattle.process.specs.Steps.{new_step}
use Rattle.net.specs.Image.{Label}
use Rattle.net.specs.Firing as Firing
use Rattle.net.specs.Firing.{Outcome, is_marking}
use Rattle.net.proofs.Steps.{turn_last}
use Rattle.places.specs.Places.{control, places}
use Rattle.places.specs.Image.{net_with}
use Rattle.readback.specs.Configurations.{Configuration, spot}
use Rattle.readback.specs.Reading.{refused, words, marked, stands_for_state, reading_back}
use Rattle.fidelity.specs.Fresh.{StandsAt, CanMake, FreeAtNew}
use Rattle.fidelity.specs.Inner.Marks.{after, Exists, exists-control, WellFormed}
use Rattle.fidelity.specs.Inner.Standing.{marking_of}
use Rattle.fidelity.proofs.Shapes.{place-first}
use Rattle.fidelity.proofs.Fireable.{Fireable, fire-new}
use Rattle.fidelity.proofs.Basics.{same_spot-true}
use Rattle.fidelity.proofs.Turns.{image, S, U, E}
use Rattle.fidelity.proofs.Waiting.{Number, number_of}
use Rattle.fidelity.proofs.Worlds.{net}
use Rattle.fidelity.proofs.Accepting.{fire-is}
use Rattle.fidelity.proofs.Standing.{read, read-formed, marking-is, spot-chosen}

-- a marking for which reading back has words passes both tests
passed-both : (a b : Bool) (ws state : List ℕ) → pick (not a) (refused 13) (pick (not b) (refused 17) (words ws)) ≡ words state → (a ≡ true) × (b ≡ true)
passed-both true true ws state e = (refl, refl)
passed-both true false ws state e = absurd cc
passed-both false b ws state e = absurd cc

module _ (w : List ℕ) (A : Accepted (scheme w)) (m : List ℕ) (hm : is_marking (length (places (S w A) (U w A))) m ≡ true)
    (st : stands_for_state (S w A) (U w A) (marked (places (S w A) (U w A)) m) ≡ true) where
  abbrev c : Configuration
  c = read (S w A) (U w A) A m hm st

  formed : WellFormed (S w A) (U w A) c
  formed = read-formed (S w A) (U w A) A m hm st (E w A)

  marks : m ≡ marking_of (S w A) (U w A) c
  marks = marking-is (S w A) (U w A) A m hm st (E w A)

  fits : is_marking (net w A).places m ≡ true
  unfolding net_with
  fits = hm

  module _ (n name child : ℕ) (h : (scheme w).node n ≡ new name child) (on : StandsAt w m n) where
    here : Exists (S w A) (U w A) (control n 0)
    here = exists-control (place-first (S w A) (U w A) A n (A.new-inside n name child h).0)

    at_new : c.at ((S w A).thread n) ≡ spot n 0
    at_new = same_spot-true (c.at ((S w A).thread n)) (spot n 0) (spot-chosen (S w A) (U w A) A m hm st n 0 here ∙ same-yes _ 1 on)

    can-make : CanMake w m n name
    can-make = build (fire-new (S w A) (U w A) A (E w A) c formed n name child h at_new)
      where
        fired : (F : Fireable (S w A) (U w A) A (E w A) c (new_step n)) → Number w A F.firing c → CanMake w m n name
        fired F N = record {
          number = N.number;
          label = ap (λ (λ' : Label). λ'.kind ∷ λ'.a ∷ λ'.b ∷ []) N.label ∙ F.label ∙ rw h;
          accepted =
              ap (λ (x : List ℕ). (Firing.fire (image w) x N.number).cause) marks
              ∙ ap (λ (o : Outcome). o.cause) (fire-is w A c N.number (rw (← marks) fits)
              ∙ turn_last (image w) (marking_of (S w A) (U w A) c) N.number (marking_of (S w A) (U w A) (after (S w A) F.firing c)) N.steps);
        }

        build : Fireable (S w A) (U w A) A (E w A) c (new_step n) → CanMake w m n name
        build F = fired F (number_of w A c formed F.described F.fits)

pub free-at-new : (w : List ℕ) → cause w ≡ 0 → FreeAtNew w
unfolding reading_back
free-at-new w h m s n name child e on =
    let A : Accepted (scheme w) = accepted w h in
    let (p, q) =
    passed-both (is_marking (length (places (S w A) (U w A))) m) (stands_for_state (S w A) (U w A) (marked (places (S w A) (U w A)) m)) _ s.state s.reads in
    can-make w A m p q n name child e on
