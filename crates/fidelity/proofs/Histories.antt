-- Any list of calls on a built net: the marking is the one that the firings made give from the start, the plain process's state is the one that they
-- give, and no call answers 16. So each firing made is bookkeeping or an open step, no more than 2B bookkeeping firings are in a row, the marking stands
-- for the plain process's state, and each open step can be fired after at most B bookkeeping firings.
use Prim.Native.Nat.{ℕ}
use mathlib.Core.Path.{◌≡◌, refl, sym, ap, ◌∙◌, subst}
use mathlib.Core.Logic.{◌⊎◌, inl, inr}
use mathlib.Core.Bool.{Bool, true, false, not}
use mathlib.Core.List.{List, [], ◌∷◌, ◌++◌}
use native.Mathlib.Omega.{arith}
use lib.Dec.{ltb}
use lib.ListN.{length, take}
use lib.Seq.{take-length}
use Rattle.lists.specs.Lists.{pick, same, every}
use Rattle.lists.proofs.Tests.{same-no}
use Rattle.scheme.specs.Scheme.{scheme}
use Rattle.table.specs.Accepted.{Accepted}
use Rattle.process.specs.States.{State, start}
use Rattle.net.specs.Firing as Firing
use Rattle.net.specs.Firing.{Outcome, outcome, RunOutcome, made, refused, step, in_turn, Search, lowest_enabled, settle_first, run_by, initial_marking, is_marking}
use Rattle.net.specs.Image.{place_count_of, transition_count, is_header_right, are_records_right}
use Rattle.net.specs.Net.{Net, encode, is_ascending}
use Rattle.net.proofs.Steps.{turn_last, turn-refused, marking-length}
use Rattle.net.proofs.Outcomes.{turn-first, turn-keeps, run-in-turn, run-count}
use Rattle.net.proofs.Built.{initial-is-marking, fire-built, replay-built, run-built}
use Rattle.summary.specs.Summary.{Summary, shares, worked_out}
use Rattle.summary.specs.Calls as Keeping
use Rattle.summary.specs.Calls.{are_lengths_right, KeepOutcome, keeps}
use Rattle.fidelity.specs.Calls.{Call, fire, fire_with, run, run_of_lowest, replay, Answer, of_outcome, from_run, ending_cause, advances, begun}
use Rattle.fidelity.specs.Calls.{makes, leaves_all, World, called_on, after, world}
use Rattle.fidelity.specs.Inner.Standing.{marking_of, Stands}
use Rattle.fidelity.specs.Inner.Starting.{start_configuration}
use Rattle.fidelity.proofs.Rows.{left-bound}
use Rattle.fidelity.proofs.Starting.{start-shows}
use Rattle.fidelity.proofs.Built as Built
use Rattle.fidelity.proofs.Turns.{image, S, U, E, image-is, Kept, Acts, goes, stops, turns}
use Rattle.fidelity.proofs.Worlds.{Calm, calm-16, calm-leaves, every-snoc, net, Standing, act, turn-calm, Joined, joined, advances-append}
use Rattle.fidelity.proofs.Worlds.{run-calm}
use Rattle.fidelity.proofs.Searching.{Sound, settles-sound, lowest-sound}

abbrev calm : Answer → Bool
calm a = not (same a.cause 16)

module _ (w : List ℕ) (A : Accepted (scheme w)) where
  abbrev first : List ℕ
  first = initial_marking (image w)

  -- the marking and the plain process are what the firings made give
  pub record Played (v : World) : Type 0 where
    pub fired : (in_turn (image w) first v.plain.made).cause ≡ 0
    pub marks : v.marking ≡ (in_turn (image w) first v.plain.made).marking
    pub state : v.plain.state ≡ advances w (image w) (start (scheme w)) v.plain.made
    pub safe : every calm v.answers ≡ true

  first-is : first ≡ marking_of (S w A) (U w A) (start_configuration (S w A))
  first-is = ap initial_marking (image-is w A) ∙ Built.initial-is (S w A) (U w A) A (E w A)

  -- all numbers fired from the start
  pub from_start : (ns : List ℕ) → (in_turn (image w) first ns).cause ≡ 0 → Kept w A 0 (start_configuration (S w A)) (start (scheme w)) ns
  from_start ns h =
      turns w A ns 0 (start_configuration (S w A)) (start (scheme w)) (start-shows (S w A) (U w A) A)
      (omega (arith, left-bound (S w A) (U w A) A (E w A) (start_configuration (S w A)) (start-shows (S w A) (U w A) A).formed))
      (ap (λ (m : List ℕ). (in_turn (image w) m ns).cause) (sym first-is) ∙ h)

  -- the marking stands for the plain process's state
  pub played-stands : (v : World) → Played v → Stands (S w A) (U w A) v.marking v.plain.state
  played-stands v P = build (from_start v.plain.made P.fired)
    where
      build : Kept w A 0 (start_configuration (S w A)) (start (scheme w)) v.plain.made → Stands (S w A) (U w A) v.marking v.plain.state
      build K = record {
        configuration = K.last;
        shows = subst (λ (s : State). Standing w A K.last s) (sym P.state) K.shows;
        is = P.marks ∙ ap (λ (m : List ℕ). (in_turn (image w) m v.plain.made).marking) first-is ∙ K.marks;
      }

  pub played-marking : (v : World) → Played v → is_marking (net w A).places v.marking ≡ true
  played-marking v P =
      subst (λ (m : List ℕ). is_marking (net w A).places m ≡ true) (sym P.marks)
      (turn-keeps (net w A).places (image w) first v.plain.made
      (subst (λ (i : List ℕ). is_marking (net w A).places (initial_marking i) ≡ true) (sym (image-is w A)) (initial-is-marking (net w A))))

  -- ---- what a call does

  -- numbers more are made
  more-made : (v : World) → Played v → (ks : List ℕ) (a : Answer) (m : List ℕ) → (in_turn (image w) v.marking ks).cause ≡ 0
      → m ≡ (in_turn (image w) v.marking ks).marking → calm a ≡ true
      → Played (record { marking = m; plain = makes w (image w) v.plain ks; answers = v.answers ++ (a ∷ []) })
  more-made v P ks a m h e q =
      build (joined w A v.plain.made ks (start_configuration (S w A)) (start (scheme w)) (start-shows (S w A) (U w A) A)
      (ap (λ (n : List ℕ). (in_turn (image w) n v.plain.made).cause) (sym first-is) ∙ P.fired))
    where
      build : Joined w A (marking_of (S w A) (U w A) (start_configuration (S w A))) v.plain.made ks
          → Played (record { marking = m; plain = makes w (image w) v.plain ks; answers = v.answers ++ (a ∷ []) })
      build J =
          let j : Joined w A first v.plain.made ks = subst (λ (n : List ℕ). Joined w A n v.plain.made ks) (sym first-is) J in
          record {
            fired = j.cause ∙ ap (λ (n : List ℕ). (in_turn (image w) n ks).cause) (sym P.marks) ∙ h;
            marks = e ∙ ap (λ (n : List ℕ). (in_turn (image w) n ks).marking) P.marks ∙ sym j.marking;
            state = ap (λ (s : State). advances w (image w) s ks) P.state ∙ sym (advances-append w A (start (scheme w)) v.plain.made ks);
            safe = every-snoc calm v.answers a P.safe q;
          }

  -- nothing changes but the answers
  none_made : (v : World) → Played v → (a : Answer) → calm a ≡ true
      → Played (record { marking = v.marking; plain = v.plain; answers = v.answers ++ (a ∷ []) })
  none_made v P a q = record { fired = P.fired; marks = P.marks; state = P.state; safe = every-snoc calm v.answers a P.safe q }

  -- the numbers are made from the start
  made-afresh : (v : World) → Played v → (ks : List ℕ) (a : Answer) (m : List ℕ) → (in_turn (image w) first ks).cause ≡ 0
      → m ≡ (in_turn (image w) first ks).marking → calm a ≡ true
      → Played (record { marking = m; plain = makes w (image w) (begun w) ks; answers = v.answers ++ (a ∷ []) })
  made-afresh v P ks a m h e q = record { fired = h; marks = e; state = refl; safe = every-snoc calm v.answers a P.safe q }

  -- ---- firings

  abbrev fired_by : World → ℕ → Outcome → World
  fired_by v k o = record {
    marking = o.marking;
    plain = pick (same o.cause 0) (makes w (image w) v.plain (k ∷ [])) v.plain;
    answers = v.answers ++ ((of_outcome o).answer ∷ []);
  }

  fire-turn : (v : World) (P : Played v) (k : ℕ) → Firing.fire (image w) v.marking k ≡ in_turn (image w) v.marking (k ∷ [])
  fire-turn v P k =
      subst (λ (i : List ℕ). Firing.fire i v.marking k ≡ in_turn i v.marking (k ∷ [])) (sym (image-is w A))
      (fire-built (net w A) (Built.net-ascending (S w A) (U w A) A (E w A)) v.marking k (played-marking v P))

  fired-played : (v : World) → Played v → (k : ℕ) → Played (fired_by v k (in_turn (image w) v.marking (k ∷ [])))
  unfolding same
  fired-played v P k = go (played-stands v P)
    where
      go : Stands (S w A) (U w A) v.marking v.plain.state → Played (fired_by v k (in_turn (image w) v.marking (k ∷ [])))
      go T = next (act w A T.configuration v.plain.state k T.shows)
        where
          next : Acts w A T.configuration v.plain.state 0 k → Played (fired_by v k (in_turn (image w) v.marking (k ∷ [])))
          next (goes d N e o b) =
              let q : in_turn (image w) v.marking (k ∷ []) ≡ outcome 0 1 (marking_of (S w A) (U w A) d)
              = turn_last (image w) v.marking k (marking_of (S w A) (U w A) d) (ap (λ (m : List ℕ). step (image w) m k) T.is ∙ e) in
              subst (λ (r : Outcome). Played (fired_by v k r)) (sym q)
              (more-made v P (k ∷ []) (of_outcome (outcome 0 1 (marking_of (S w A) (U w A) d))).answer (marking_of (S w A) (U w A) d)
              (ap (λ (r : Outcome). r.cause) q) (sym (ap (λ (r : Outcome). r.marking) q)) (calm-16 0 (inl refl)))
          next (stops cause h e) =
              let q : in_turn (image w) v.marking (k ∷ []) ≡ outcome cause 0 v.marking
              = turn-refused (image w) v.marking k [] cause (ap (λ (m : List ℕ). step (image w) m k) T.is ∙ e) in
              subst (λ (r : Outcome). Played (fired_by v k r)) (sym q)
              (kept cause h (none_made v P (of_outcome (outcome cause 0 v.marking)).answer (calm-16 cause (inr h))))
            where
              kept : (cause : ℕ) → (cause ≡ 14) ⊎ (cause ≡ 15)
                  → Played (record { marking = v.marking; plain = v.plain; answers = v.answers ++ ((of_outcome (outcome cause 0 v.marking)).answer ∷ []) })
                  → Played (fired_by v k (outcome cause 0 v.marking))
              kept cause (inl x) p = rw (same-no cause 0 (λ y. absurd (omega arith))) p
              kept cause (inr x) p = rw (same-no cause 0 (λ y. absurd (omega arith))) p

  -- ---- firings with a summary, which decide by the marking: refused before they come to the transition, or made or refused as the firing is

  refused-played : (v : World) → Played v → (k cause : ℕ) → (cause ≡ 0 → ⊥) → (cause ≡ 16 → ⊥) → Played (fired_by v k (outcome cause 0 v.marking))
  refused-played v P k cause z h =
      rw (same-no cause 0 z) (none_made v P (of_outcome (outcome cause 0 v.marking)).answer (ap not (same-no cause 16 h)))

  kept-played : (v : World) → Played v → (s : Summary) (k : ℕ) → Played (called_on w (image w) v (fire_with s k))
  unfolding Keeping.fire_with
  kept-played v P s k =
      go (not (is_header_right (image w))) (not (is_marking (place_count_of (image w)) v.marking)) (not (are_lengths_right (image w) s))
      (not (ltb k (transition_count (image w)))) (not (are_records_right (image w))) (step (image w) v.marking k) refl
    where
      last : Firing.Step → KeepOutcome
      last r = elim r [
        | made next ↦ keeps 0 1 next (worked_out (image w) (shares (image w) k) next s)
        | refused cause ↦ keeps cause 0 v.marking s
      ]

      tests : Bool → Bool → Bool → Bool → Bool → Firing.Step → KeepOutcome
      tests a b c d e r =
          pick a (keeps 11 0 v.marking s) (pick b (keeps 13 0 v.marking s) (pick c (keeps 20 0 v.marking s)
          (pick d (keeps 14 0 v.marking s) (pick e (keeps 12 0 v.marking s) (last r)))))

      kept : KeepOutcome → Outcome
      kept o = outcome o.cause o.firings o.marking

      go : (a b c d e : Bool) (r : Firing.Step) → step (image w) v.marking k ≡ r → Played (fired_by v k (kept (tests a b c d e r)))
      go true b c d e r q = refused-played v P k 11 (λ x. omega arith) (λ x. omega arith)
      go false true c d e r q = refused-played v P k 13 (λ x. omega arith) (λ x. omega arith)
      go false false true d e r q = refused-played v P k 20 (λ x. omega arith) (λ x. omega arith)
      go false false false true e r q = refused-played v P k 14 (λ x. omega arith) (λ x. omega arith)
      go false false false false true r q = refused-played v P k 12 (λ x. omega arith) (λ x. omega arith)
      go false false false false false (made x) q =
          subst (λ (o : Outcome). Played (fired_by v k o)) (turn_last (image w) v.marking k x q) (fired-played v P k)
      go false false false false false (refused j) q =
          subst (λ (o : Outcome). Played (fired_by v k o)) (turn-refused (image w) v.marking k [] j q) (fired-played v P k)

  -- ---- runs

  abbrev ran_by : World → RunOutcome → World
  ran_by v r = record {
    marking = r.marking;
    plain = makes w (image w) v.plain (take r.firings r.history);
    answers = v.answers ++ ((from_run r).answer ∷ []);
  }

  run-turn : (rule : List ℕ → List ℕ → Search) (v : World) (P : Played v) (limit room : ℕ)
      → Firing.run_of (image w) (rule (image w)) v.marking limit room ≡ run_by (image w) (rule (image w)) limit room v.marking
  run-turn rule v P limit room =
      subst (λ (i : List ℕ). Firing.run_of i (rule i) v.marking limit room ≡ run_by i (rule i) limit room v.marking) (sym (image-is w A))
      (run-built (net w A) (Built.net-ascending (S w A) (U w A) A (E w A)) (rule (encode (net w A))) v.marking limit room (played-marking v P))

  ran-played : (rule : List ℕ → Search) → Sound (image w) rule → (v : World) → Played v → (limit room : ℕ)
      → Played (ran_by v (run_by (image w) rule limit room v.marking))
  ran-played rule G v P limit room = go (run_by (image w) rule limit room v.marking) refl (played-stands v P)
    where
      go : (r : RunOutcome) → run_by (image w) rule limit room v.marking ≡ r → Stands (S w A) (U w A) v.marking v.plain.state → Played (ran_by v r)
      go r e T =
          let all : take r.firings r.history ≡ r.history
          = ap (λ (k : ℕ). take k r.history)
          (sym (subst (λ (o : RunOutcome). length o.history ≡ o.firings) e (run-count (image w) rule limit room v.marking)))
          ∙ take-length r.history in
          let turn : in_turn (image w) v.marking r.history ≡ outcome 0 r.firings r.marking
          = subst (λ (o : RunOutcome). in_turn (image w) v.marking o.history ≡ outcome 0 o.firings o.marking) e
          (run-in-turn (image w) rule limit room v.marking) in
          let quiet : ending_cause r.reason ≡ 0
          = subst (λ (o : RunOutcome). ending_cause o.reason ≡ 0) e
          (subst (λ (m : List ℕ). ending_cause (run_by (image w) rule limit room m).reason ≡ 0) (sym T.is)
          (run-calm w A rule G limit room T.configuration v.plain.state T.shows)) in
          more-made v P (take r.firings r.history) (from_run r).answer r.marking
          (ap (λ (ks : List ℕ). (in_turn (image w) v.marking ks).cause) all ∙ ap (λ (o : Outcome). o.cause) turn)
          (sym (ap (λ (ks : List ℕ). (in_turn (image w) v.marking ks).marking) all ∙ ap (λ (o : Outcome). o.marking) turn))
          (calm-16 (ending_cause r.reason) (inl quiet))

  -- of any rule that is sound on built nets
  rule-played : (rule : List ℕ → List ℕ → Search) → ((i : Net) → is_ascending i ≡ true → Sound (encode i) (rule (encode i))) → (v : World) → Played v
      → (limit room : ℕ) → Played (ran_by v (Firing.run_of (image w) (rule (image w)) v.marking limit room))
  rule-played rule G v P limit room =
      subst (λ (r : RunOutcome). Played (ran_by v r)) (sym (run-turn rule v P limit room))
      (ran-played (rule (image w))
      (subst (λ (i : List ℕ). Sound i (rule i)) (sym (image-is w A)) (G (net w A) (Built.net-ascending (S w A) (U w A) A (E w A)))) v P limit room)

  -- ---- replays

  abbrev replayed_by : World → List ℕ → Outcome → World
  replayed_by v ks o = record {
    marking = o.marking;
    plain = pick (leaves_all o.cause) v.plain (makes w (image w) (begun w) (take o.firings ks));
    answers = v.answers ++ ((of_outcome o).answer ∷ []);
  }

  replay-turn : (v : World) (P : Played v) (ks : List ℕ) → Firing.replay (image w) v.marking ks ≡ in_turn (image w) first ks
  replay-turn v P ks =
      subst (λ (i : List ℕ). Firing.replay i v.marking ks ≡ in_turn i (initial_marking i) ks) (sym (image-is w A))
      (replay-built (net w A) (Built.net-ascending (S w A) (U w A) A (E w A)) v.marking ks
      (marking-length (net w A).places v.marking (played-marking v P)))

  replayed-played : (v : World) → Played v → (ks : List ℕ) → Played (replayed_by v ks (in_turn (image w) first ks))
  replayed-played v P ks = go (in_turn (image w) first ks) refl
    where
      quiet : Calm (in_turn (image w) first ks).cause
      quiet =
          subst (λ (m : List ℕ). Calm (in_turn (image w) m ks).cause) (sym first-is)
          (turn-calm w A ks (start_configuration (S w A)) (start (scheme w)) (start-shows (S w A) (U w A) A))

      go : (o : Outcome) → in_turn (image w) first ks ≡ o → Played (replayed_by v ks o)
      go o e =
          let c : Calm o.cause = subst (λ (r : Outcome). Calm r.cause) e quiet in
          let turn : in_turn (image w) first (take o.firings ks) ≡ outcome 0 o.firings o.marking
          = subst (λ (r : Outcome). in_turn (image w) first (take r.firings ks) ≡ outcome 0 r.firings r.marking) e (turn-first (image w) first ks) in
          rw (calm-leaves o.cause c)
          (made-afresh v P (take o.firings ks) (of_outcome o).answer o.marking (ap (λ (r : Outcome). r.cause) turn)
          (sym (ap (λ (r : Outcome). r.marking) turn)) (calm-16 o.cause c))

  -- ---- every call, and every list of calls

  called-played : (v : World) → Played v → (c : Call) → Played (called_on w (image w) v c)
  called-played v P (fire k) = subst (λ (o : Outcome). Played (fired_by v k o)) (sym (fire-turn v P k)) (fired-played v P k)
  called-played v P (fire_with s k) = kept-played v P s k
  called-played v P (run limit room) = rule-played settle_first settles-sound v P limit room
  called-played v P (run_of_lowest limit room) = rule-played lowest_enabled lowest-sound v P limit room
  called-played v P (replay ks) = subst (λ (o : Outcome). Played (replayed_by v ks o)) (sym (replay-turn v P ks)) (replayed-played v P ks)

  after-played : (cs : List Call) (v : World) → Played v → Played (after w (image w) v cs)
  unfolding after
  after-played [] v P = P
  after-played (c ∷ cs) v P = after-played cs (called_on w (image w) v c) (called-played v P c)

  pub world-played : (cs : List Call) → Played (world w (image w) cs)
  unfolding in_turn advances every
  world-played cs =
      after-played cs (record { marking = first; plain = begun w; answers = [] }) (record { fired = refl; marks = refl; state = refl; safe = refl })
