-- The net of a rewritten table shows exactly the sequences of steps that the college's table allows: by demand 3 of the rewritten table, and by what rewriting
-- keeps.
use mathlib.Core.Path.{◌≡◌, refl, sym, ap, ◌∙◌, subst}
use mathlib.Core.Logic.{◌⊎◌, inl, inr}
use mathlib.Core.Bool.{Bool, true, false, ◌||◌}
use mathlib.Core.List.{List, [], ◌∷◌, ◌++◌, map, append_assoc, append-nil}
use Prim.Native.Nat.{ℕ, ◌≤◌}
use native.Mathlib.Omega.{arith}
use lib.ListN.{take}
use borrow.Author.Tests.{leb-true}
use Rattle.lists.specs.Lists.{pick, same, every}
use Rattle.lists.proofs.Tests.{false-true, true-or-false, and_both, and_intro, and_left, same-no}
use Rattle.lists.proofs.Members.{map-append}
use Rattle.scheme.specs.Scheme.{Scheme, scheme}
use Rattle.process.specs.States.{State, start}
use Rattle.process.specs.Steps as Steps
use Rattle.process.specs.Steps.{Step, no_step, is_step_open}
use Rattle.process.specs.Labels.{step_of}
use Rattle.net.specs.Image.{label_at}
use Rattle.places.specs.Image.{image_of}
use Rattle.rewriting.specs.Rewriting.{rewritten}
use Rattle.rewriting.specs.Outcomes.{rewrite_cause}
use Rattle.rewriting.specs.Sequences.{take_steps, open_in_turn, read_step}
use Rattle.rewriting.proofs.Answering.{OpenReading}
use Rattle.rewriting.proofs.Theorem.{open-read, rewrites}
use Rattle.fidelity.specs.Calls.{Call, fire, fire_with, run, run_of_lowest, replay, Answer, Plain, begun, World, leaves_all, perform, step_at, is_quiet}
use Rattle.fidelity.specs.Calls.{advance, advances, makes, hears, called_on, after, world}
use Rattle.fidelity.specs.Demand.{is_answer_accepted, lawful, CanFire, Demand3}
use Rattle.fidelity.specs.SelfCalls.{shown, college_steps, CollegeAllows, ShownBy, SameShown}
use Rattle.fidelity.proofs.Theorem.{demand3}

-- ---- the steps among some firings

module _ (v image : List ℕ) where
  advances-append : (s : State) (a b : List ℕ) → advances v image s (a ++ b) ≡ advances v image (advances v image s a) b
  unfolding advances
  advances-append s [] b = refl
  advances-append s (k ∷ a) b = advances-append (advance v image s k) a b

  -- they lead where the firings lead
  advances-shown : (s : State) (ks : List ℕ) → advances v image s ks ≡ take_steps (scheme v) s (shown v image ks)
  unfolding advances shown take_steps
  advances-shown s [] = refl
  advances-shown s (k ∷ ks) = go (is_quiet v image k) (λ t. advances-shown t ks)
    where
      go : (q : Bool) → ((t : State) → advances v image t ks ≡ take_steps (scheme v) t (shown v image ks))
          → advances v image (pick q s (Steps.take (scheme v) (step_at v image k) s)) ks
          ≡ take_steps (scheme v) s (pick q (shown v image ks) (step_at v image k ∷ shown v image ks))
      go true ih = ih s
      go false ih = ih (Steps.take (scheme v) (step_at v image k) s)

  -- lawful firings show steps open in turn
  lawful-open : (ks : List ℕ) (s : State) → lawful v image s ks ≡ true → open_in_turn (scheme v) s (shown v image ks) ≡ true
  unfolding lawful shown open_in_turn
  lawful-open [] s h = refl
  lawful-open (k ∷ ks) s h =
      let t = and_both (is_quiet v image k || is_step_open (scheme v) s (step_at v image k)) (lawful v image (advance v image s k) ks) h in
      go (is_quiet v image k) t.0 t.1 (λ u. lawful-open ks u)
    where
      go : (q : Bool) → (q || is_step_open (scheme v) s (step_at v image k)) ≡ true
          → lawful v image (pick q s (Steps.take (scheme v) (step_at v image k) s)) ks ≡ true
          → ((u : State) → lawful v image u ks ≡ true → open_in_turn (scheme v) u (shown v image ks) ≡ true)
          → open_in_turn (scheme v) s (pick q (shown v image ks) (step_at v image k ∷ shown v image ks)) ≡ true
      go true o l ih = ih s l
      go false o l ih = and_intro _ _ o (ih (Steps.take (scheme v) (step_at v image k) s) l)

  shown-append : (a b : List ℕ) → shown v image (a ++ b) ≡ shown v image a ++ shown v image b
  unfolding shown
  shown-append [] b = refl
  shown-append (k ∷ a) b = go (is_quiet v image k) (shown-append a b)
    where
      go : (q : Bool) → shown v image (a ++ b) ≡ shown v image a ++ shown v image b
          → pick q (shown v image (a ++ b)) (step_at v image k ∷ shown v image (a ++ b))
          ≡ pick q (shown v image a) (step_at v image k ∷ shown v image a) ++ shown v image b
      go true ih = ih
      go false ih = rw ih

  shown-quiet : (a : List ℕ) → every (is_quiet v image) a ≡ true → shown v image a ≡ []
  unfolding shown every
  shown-quiet [] h = refl
  shown-quiet (k ∷ a) h = let t = and_both (is_quiet v image k) (every (is_quiet v image) a) h in rw t.0 (shown-quiet a t.1)

  -- a bookkeeping number names no step
  quiet_none : (k : ℕ) → is_quiet v image k ≡ true → step_at v image k ≡ no_step
  unfolding step_of
  quiet_none k h =
      let l : (label_at image k).kind ≤ 1 = leb-true (label_at image k).kind 1 h in
      rw (
        same-no (label_at image k).kind 2 (λ e. omega arith),
        same-no (label_at image k).kind 3 (λ e. omega arith),
        same-no (label_at image k).kind 4 (λ e. omega arith),
        same-no (label_at image k).kind 5 (λ e. omega arith),
      )

  -- a number whose step is open shows that step
  open-shown : (s : State) (k : ℕ) (x : Step) → is_step_open (scheme v) s x ≡ true → step_at v image k ≡ x → shown v image (k ∷ []) ≡ x ∷ []
  unfolding shown is_step_open
  open-shown s k x o e = go (true-or-false (is_quiet v image k))
    where
      go : (is_quiet v image k ≡ true) ⊎ (is_quiet v image k ≡ false) → pick (is_quiet v image k) [] (step_at v image k ∷ []) ≡ x ∷ []
      go (inl q) = let z : x ≡ no_step = sym e ∙ quiet_none k q in false-true refl (rw z at o)
      go (inr q) = rw (q, e)

  -- ---- worlds

  abbrev Follows : Plain → Type 0
  Follows p = p.state ≡ advances v image (start (scheme v)) p.made

  makes-follows : (p : Plain) (ks : List ℕ) → Follows p → Follows (makes v image p ks)
  makes-follows p ks h = ap (λ (s : State). advances v image s ks) h ∙ sym (advances-append (start (scheme v)) p.made ks)

  begun-follows : Follows (begun v)
  unfolding advances
  begun-follows = refl

  hears-follows : (p : Plain) (c : Call) (a : Answer) → Follows p → Follows (hears v image p c a)
  hears-follows p (fire k) a h = go (same a.cause 0)
    where
      go : (b : Bool) → Follows (pick b (makes v image p (k ∷ [])) p)
      go true = makes-follows p (k ∷ []) h
      go false = h
  hears-follows p (fire_with s k) a h = go (same a.cause 0)
    where
      go : (b : Bool) → Follows (pick b (makes v image p (k ∷ [])) p)
      go true = makes-follows p (k ∷ []) h
      go false = h
  hears-follows p (run limit room) a h = makes-follows p (take a.firings a.written) h
  hears-follows p (run_of_lowest limit room) a h = makes-follows p (take a.firings a.written) h
  hears-follows p (replay ks) a h = go (leaves_all a.cause)
    where
      go : (b : Bool) → Follows (pick b p (makes v image (begun v) (take a.firings ks)))
      go true = h
      go false = makes-follows (begun v) (take a.firings ks) begun-follows

  after-follows : (cs : List Call) (u : World) → Follows u.plain → Follows (after v image u cs).plain
  unfolding after
  after-follows [] u h = h
  after-follows (c ∷ cs) u h = after-follows cs (called_on v image u c) (hears-follows u.plain c (perform v image u.marking c).answer h)

  -- where the firings made lead is where the plain process is
  world-follows : (cs : List Call) → (world v image cs).plain.state ≡ take_steps (scheme v) (start (scheme v)) (shown v image (world v image cs).plain.made)
  world-follows cs = after-follows cs _ begun-follows ∙ advances-shown (start (scheme v)) (world v image cs).plain.made

  after-append : (u : World) (cs ds : List Call) → after v image u (cs ++ ds) ≡ after v image (after v image u cs) ds
  unfolding after
  after-append u [] ds = refl
  after-append u (c ∷ cs) ds = after-append (called_on v image u c) cs ds

  abbrev at : List ℕ → Plain → List Answer → World
  at m p xs = record { marking = m; plain = p; answers = xs }

  -- the plain process does not look at the answers kept
  plain-same : (cs : List Call) (m : List ℕ) (p : Plain) (xs ys : List Answer) → (after v image (at m p xs) cs).plain ≡ (after v image (at m p ys) cs).plain
  unfolding after
  plain-same [] m p xs ys = refl
  plain-same (c ∷ cs) m p xs ys =
      let r = perform v image m c in
      plain-same cs r.marking (hears v image p c r.answer) (xs ++ (r.answer ∷ [])) (ys ++ (r.answer ∷ []))

  every_first : (xs : List Answer) (x : Answer) → every is_answer_accepted (xs ++ (x ∷ [])) ≡ true → (every is_answer_accepted xs ≡ true) × (is_answer_accepted x ≡ true)
  unfolding every
  every_first [] x h = (refl, and_left (is_answer_accepted x) true h)
  every_first (y ∷ xs) x h =
      let t = and_both (is_answer_accepted y) (every is_answer_accepted (xs ++ (x ∷ []))) h in
      let r = every_first xs x t.1 in
      (and_intro _ _ t.0 r.0, r.1)

  -- answers are only added
  answers-kept : (cs : List Call) (u : World) → every is_answer_accepted (after v image u cs).answers ≡ true → every is_answer_accepted u.answers ≡ true
  unfolding after
  answers-kept [] u h = h
  answers-kept (c ∷ cs) u h = (every_first u.answers (perform v image u.marking c).answer (answers-kept cs (called_on v image u c) h)).0

  -- numbers that are all accepted are all made
  fires-made : (ks m : List ℕ) (p : Plain) (xs : List Answer) → every is_answer_accepted (after v image (at m p xs) (map fire ks)).answers ≡ true
      → (after v image (at m p xs) (map fire ks)).plain.made ≡ p.made ++ ks
  unfolding after
  fires-made [] m p xs h = sym (append-nil p.made)
  fires-made (k ∷ ks) m p xs h =
      let r = perform v image m (fire k) in
      go (same r.answer.cause 0) refl (fires-made ks r.marking (hears v image p (fire k) r.answer) (xs ++ (r.answer ∷ [])) h)
    where
      a : Answer
      a = (perform v image m (fire k)).answer

      taken : same a.cause 0 ≡ true
      taken =
          (every_first xs a (answers-kept (map fire ks) (at (perform v image m (fire k)).marking (hears v image p (fire k) a) (xs ++ (a ∷ []))) h)).1

      go : (b : Bool) → same a.cause 0 ≡ b
          → (after v image (at (perform v image m (fire k)).marking (hears v image p (fire k) a) (xs ++ (a ∷ []))) (map fire ks)).plain.made
          ≡ (hears v image p (fire k) a).made ++ ks
          → (after v image (at (perform v image m (fire k)).marking (hears v image p (fire k) a) (xs ++ (a ∷ []))) (map fire ks)).plain.made
          ≡ p.made ++ (k ∷ ks)
      go true e ih = ih ∙ rw e (append_assoc p.made (k ∷ []) ks)
      go false e ih = false-true e taken

-- ---- the claim

take_steps-append : (S : Scheme) (s : State) (xs ys : List Step) → take_steps S s (xs ++ ys) ≡ take_steps S (take_steps S s xs) ys
unfolding take_steps
take_steps-append S s [] ys = refl
take_steps-append S s (x ∷ xs) ys = take_steps-append S (Steps.take S x s) xs ys

module _ (w image : List ℕ) (h : rewrite_cause w ≡ 0) (D : (calls : List Call) → Demand3 (rewritten w) image calls) where
  abbrev steps : List Call → List Step
  steps calls = shown (rewritten w) image (world (rewritten w) image calls).plain.made

  abbrev college : List Call → State
  college calls = take_steps (scheme w) (start (scheme w)) (college_steps w image calls)

  opens : (calls : List Call) → open_in_turn (scheme (rewritten w)) (start (scheme (rewritten w))) (steps calls) ≡ true
  opens calls = lawful-open (rewritten w) image (world (rewritten w) image calls).plain.made (start (scheme (rewritten w))) (D calls).steps

  read-open : (calls : List Call) (y : Step) → is_step_open (scheme w) (college calls) y ≡ true
      → OpenReading (scheme (rewritten w)) (read_step w) (world (rewritten w) image calls).plain.state y
  read-open calls y o =
      subst (λ (s : State). OpenReading (scheme (rewritten w)) (read_step w) s y) (sym (world-follows (rewritten w) image calls))
      (open-read w h (steps calls) (opens calls) y o)

  allows : (calls : List Call) → CollegeAllows w image calls
  allows calls = record {
    allowed = (rewrites w h).sequences.forth (steps calls) (opens calls);
    live = λ y o. let R = read-open calls y o in record { fired = R.step; reads = R.reads; fires = (D calls).live R.step R.opens };
  }

  -- one step more
  onward : (calls : List Call) (y : Step) → is_step_open (scheme w) (college calls) y ≡ true → ShownBy w image (college_steps w image calls ++ (y ∷ []))
  onward calls y o = go (read-open calls y o)
    where
      u : World
      u = world (rewritten w) image calls

      go : OpenReading (scheme (rewritten w)) (read_step w) (world (rewritten w) image calls).plain.state y
          → ShownBy w image (college_steps w image calls ++ (y ∷ []))
      go R = record { calls = calls ++ map fire ks; shows = ap (λ (ns : List ℕ). map (read_step w) (shown (rewritten w) image ns)) made ∙ read }
        where
          F : CanFire (rewritten w) image (world (rewritten w) image calls) R.step
          F = (D calls).live R.step R.opens

          ks : List ℕ
          ks = F.before ++ (F.number ∷ [])

          made : (world (rewritten w) image (calls ++ map fire ks)).plain.made ≡ (world (rewritten w) image calls).plain.made ++ ks
          made =
              ap (λ (x : World). x.plain.made) (after-append (rewritten w) image _ calls (map fire ks))
              ∙ ap (λ (p : Plain). p.made) (plain-same (rewritten w) image (map fire ks) u.marking u.plain u.answers [])
              ∙ fires-made (rewritten w) image ks u.marking u.plain [] F.accepted

          one : shown (rewritten w) image ks ≡ R.step ∷ []
          one =
              shown-append (rewritten w) image F.before (F.number ∷ [])
              ∙ rw (shown-quiet (rewritten w) image F.before F.quiet)
              (open-shown (rewritten w) image u.plain.state F.number R.step R.opens F.names)

          read : map (read_step w) (shown (rewritten w) image ((world (rewritten w) image calls).plain.made ++ ks)) ≡ college_steps w image calls ++ (y ∷ [])
          read =
              let e : shown (rewritten w) image ((world (rewritten w) image calls).plain.made ++ ks) ≡ steps calls ++ (R.step ∷ []) =
              shown-append (rewritten w) image (world (rewritten w) image calls).plain.made ks ∙ ap (λ (xs : List Step). steps calls ++ xs) one in
              ap (map (read_step w)) e ∙ map-append (read_step w) (steps calls) (R.step ∷ []) ∙ rw R.reads

  all-on : (ys : List Step) (calls : List Call) → open_in_turn (scheme w) (college calls) ys ≡ true → ShownBy w image (college_steps w image calls ++ ys)
  unfolding open_in_turn take_steps
  all-on [] calls o = record { calls = calls; shows = sym (append-nil (college_steps w image calls)) }
  all-on (y ∷ ys) calls o =
      let t = and_both (is_step_open (scheme w) (college calls) y) (open_in_turn (scheme w) (Steps.take (scheme w) y (college calls)) ys) o in
      go (onward calls y t.0) t.1 (all-on ys)
    where
      go : ShownBy w image (college_steps w image calls ++ (y ∷ [])) → open_in_turn (scheme w) (Steps.take (scheme w) y (college calls)) ys ≡ true
          → ((cs : List Call) → open_in_turn (scheme w) (college cs) ys ≡ true → ShownBy w image (college_steps w image cs ++ ys))
          → ShownBy w image (college_steps w image calls ++ (y ∷ ys))
      go N r ih =
          let B = ih N.calls (rw there r) in
          record { calls = B.calls; shows = B.shows ∙ rw N.shows (append_assoc (college_steps w image calls) (y ∷ []) ys) }
        where
          there : college N.calls ≡ Steps.take (scheme w) y (college calls)
          there = ap (take_steps (scheme w) (start (scheme w))) N.shows ∙ take_steps-append (scheme w) (start (scheme w)) (college_steps w image calls) (y ∷ [])

  claimed : SameShown w image
  unfolding after shown take_steps
  claimed = record { forth = allows; back = λ ys o. all-on ys [] o }

-- "A college's own table then allows exactly the sequences of process steps that the net shows"
pub same-shown : (w : List ℕ) → rewrite_cause w ≡ 0 → SameShown w (image_of (rewritten w))
same-shown w h = claimed w (image_of (rewritten w)) h (demand3 (rewritten w) (rewrites w h).accepted)
