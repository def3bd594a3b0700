-- Claims that differ from demand 3 in one point, and demand 3 itself of images that differ from the built one, are false: for each there are an accepted
-- table and a list of calls of which it does not hold, by computing. Of a net without transitions demand 3 holds only where no step is open.
use Prim.Native.Nat.{ℕ, suc}
use mathlib.Core.Path.{◌≡◌, refl}
use mathlib.Core.Bool.{true, false, false≢true}
use mathlib.Core.List.{List, [], ◌∷◌, ◌++◌, map}
use lib.ListN.{length, set}
use Rattle.lists.specs.Lists.{from, range, every, flat}
use Rattle.lists.proofs.Tests.{not-true-false}
use Rattle.scheme.specs.Words.{bounds}
use Rattle.scheme.specs.Scheme.{Scheme, scheme, Node, stop, choice, new, call}
use Rattle.table.specs.Causes.{cause}
use Rattle.process.specs.States.{start}
use Rattle.process.specs.Steps.{Step, silent_step, is_step_open}
use Rattle.process.specs.StateWords.{state_words}
use Rattle.net.specs.Image.{transition_count}
use Rattle.net.specs.Net.{encode}
use Rattle.net.specs.Firing.{initial_marking}
use Rattle.places.specs.Values.{Values}
use Rattle.places.specs.Reach.{values_for}
use Rattle.places.specs.Transitions.{Description, releases, copies, calling, from_node_descriptions, of_pair}
use Rattle.places.specs.Image.{transition_of, net_of, image_of}
use Rattle.readback.specs.Reading.{reading_back, words}
use Rattle.fidelity.specs.Calls.{Call, fire, fire_with, run, run_of_lowest, replay, Answer, Result, Plain, begun, perform, hears, after, world}
use Rattle.fidelity.specs.Demand.{rows_within, Demand3}
use Rattle.fidelity.proofs.Computing.{everything}
use Rattle.fidelity.proofs.Refusing.{nothing_fires, none-can-fire}

-- ---- B for 2B

-- a call with a public argument of a definition whose body is Stop, B = 1: its copy and its release follow each other
abbrev called_stop : List ℕ
called_stop = 1 ∷ 1 ∷ 2 ∷ 1 ∷ 2 ∷ 0 ∷ 1 ∷ 13 ∷ 14 ∷ 22 ∷ 23 ∷ 29 ∷ 29 ∷ 2 ∷ 0 ∷ 0 ∷ 0 ∷ 0 ∷ 0 ∷ 1 ∷ 1 ∷ 1 ∷ 0 ∷ 3 ∷ 1 ∷ 0 ∷ 0 ∷ 0 ∷ 0 ∷ 0 ∷ []

-- never more than B bookkeeping firings in a row
pub settles-within-b :
    ((w : List ℕ) → cause w ≡ 0 → (calls : List Call) → rows_within w (image_of w) (bounds w) 0 (world w (image_of w) calls).plain.made ≡ true) → ⊥
unfolding everything
settles-within-b claim = false≢true (claim called_stop refl (run 9 9 ∷ []))

-- ---- a plain process that does not hear replays

-- a silent step, then Stop
abbrev one_step : List ℕ
one_step = 0 ∷ 0 ∷ 1 ∷ 1 ∷ 2 ∷ 1 ∷ 0 ∷ 13 ∷ 13 ∷ 17 ∷ 18 ∷ 24 ∷ 28 ∷ 0 ∷ 0 ∷ 0 ∷ 0 ∷ 0 ∷ 1 ∷ 0 ∷ 1 ∷ 0 ∷ 0 ∷ 0 ∷ 0 ∷ 0 ∷ 0 ∷ 1 ∷ []

module _ (w : List ℕ) where
  abbrev hears_no_replay : Plain → Call → Answer → Plain
  hears_no_replay p (fire number) a = hears w (image_of w) p (fire number) a
  hears_no_replay p (fire_with s number) a = hears w (image_of w) p (fire_with s number) a
  hears_no_replay p (run limit room) a = hears w (image_of w) p (run limit room) a
  hears_no_replay p (run_of_lowest limit room) a = hears w (image_of w) p (run_of_lowest limit room) a
  hears_no_replay p (replay numbers) a = p

  -- it hears the calls in turn, the first made on this marking
  unfoldable pub plain_after : Plain → List ℕ → List Call → Plain
  plain_after p marking [] = p
  plain_after p marking (c ∷ cs) =
      let r : Result = perform w (image_of w) marking c in
      plain_after (hears_no_replay p c r.answer) r.marking cs

-- reading back gives this process's state
pub replays-not-heard :
    ((w : List ℕ) → cause w ≡ 0 → (calls : List Call)
    → reading_back w (world w (image_of w) calls).marking
    ≡ words (state_words (scheme w) (plain_after w (begun w) (initial_marking (image_of w)) calls).state)) → ⊥
unfolding everything plain_after
replays-not-heard claim = apart (claim one_step refl (fire 0 ∷ replay [] ∷ []))
  where
    -- it reads 0, and the process stands at 1
    apart : words (0 ∷ []) ≡ words (1 ∷ []) → ⊥
    apart e = cc

-- ---- releases before copies

module _ (S : Scheme) (U : Values) where
  -- a Call's releases stand before its copies; all else is as in the net of the scheme
  abbrev node_releasing : ℕ → Node → List Description
  node_releasing n stop = from_node_descriptions S U n stop
  node_releasing n (choice f c) = from_node_descriptions S U n (choice f c)
  node_releasing n (new r l) = from_node_descriptions S U n (new r l)
  node_releasing n (call d) =
      calling S U n (S.root d) ∷
      (releases S U n (S.root d) 1 (S.held n) ++ copies S U n (S.root d) (suc (length (S.held n))) (S.formals d) (S.arguments n))

  abbrev descriptions_releasing : List Description
  descriptions_releasing =
      flat (λ n. node_releasing n (S.node n)) (range S.nodes) ++
      flat (λ s. flat (λ r. of_pair S U s (S.branch s) r (S.branch r)) (range S.branches)) (range S.branches)

unfoldable pub image_releasing : List ℕ → List ℕ
image_releasing w =
    let S = scheme w in
    let U = values_for S in
    encode (record { places = (net_of S).places; initial = (net_of S).initial; transitions = map (transition_of S U) (descriptions_releasing S U) })

-- ν r. D(r), D(f) = τ.0
abbrev passed_places : List ℕ
passed_places =
    0 ∷ 2 ∷ 2 ∷ 1 ∷ 4 ∷ 1 ∷ 1 ∷ 13 ∷ 15 ∷ 23 ∷ 24 ∷ 36 ∷ 40 ∷ 0 ∷ 2 ∷ 0 ∷ 0 ∷ 0 ∷ 0 ∷ 0 ∷ 2 ∷ 1 ∷ 1 ∷ 0 ∷
    2 ∷ 0 ∷ 1 ∷ 3 ∷ 1 ∷ 0 ∷ 1 ∷ 0 ∷ 1 ∷ 0 ∷ 0 ∷ 0 ∷ 0 ∷ 0 ∷ 0 ∷ 3 ∷ 0 ∷ []

-- after New (0), the call (2) and the release of r (3) the silent step is open, no copy finds r's value, and nothing is enabled
pub releases-before-copies : ((w : List ℕ) → cause w ≡ 0 → (calls : List Call) → Demand3 w (image_releasing w) calls) → ⊥
unfolding everything nothing_fires image_releasing
releases-before-copies claim =
    none-can-fire passed_places (image_releasing passed_places) (world passed_places (image_releasing passed_places) calls) (silent_step 0) refl
    ((claim passed_places refl calls).live (silent_step 0) refl)
  where
    calls : List Call
    calls = fire 0 ∷ fire 2 ∷ fire 3 ∷ []

-- ---- a wrong header

-- the built image, its sixth word 9 and not 8
unfoldable pub wrong_offset : List ℕ → List ℕ
wrong_offset w = set (image_of w) 5 9

-- at first the silent step is open, and every firing is refused (11)
pub wrong-header : ((w : List ℕ) → cause w ≡ 0 → (calls : List Call) → Demand3 w (wrong_offset w) calls) → ⊥
unfolding everything nothing_fires wrong_offset
wrong-header claim =
    none-can-fire one_step (wrong_offset one_step) (world one_step (wrong_offset one_step) []) (silent_step 0) refl
    ((claim one_step refl []).live (silent_step 0) refl)

-- ---- a net without transitions

-- "Demand 3 alone would pass an empty net for a stopped process only."
pub empty-net : (w image : List ℕ) → transition_count image ≡ 0 → Demand3 w image [] → (σ : Step) → is_step_open (scheme w) (start (scheme w)) σ ≡ false
unfolding from every nothing_fires after
empty-net w image h D σ =
    not-true-false (is_step_open (scheme w) (start (scheme w)) σ)
    (λ o. none-can-fire w image (world w image []) σ none (D.live σ o))
  where
    none : nothing_fires w image (world w image []).marking ≡ true
    none = rw h
