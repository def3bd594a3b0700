-- What the net of a rewritten table shows of the college's own (document 02, Item 1): "The net, demand 3 and every later bound on firings go by the rewritten
-- table". "A college's own table then allows exactly the sequences of process steps that the net shows, with labels of copies read as their originals'."
use Rattle.std.specs.Prelude.{◌≡◌, true, List, [], ◌∷◌, map, ℕ}
use Rattle.lists.specs.Lists.{pick}
use Rattle.scheme.specs.Scheme.{scheme}
use Rattle.process.specs.States.{start}
use Rattle.process.specs.Steps.{Step, is_step_open}
use Rattle.rewriting.specs.Rewriting.{rewritten}
use Rattle.rewriting.specs.Sequences.{take_steps, open_in_turn, read_step}
use Rattle.fidelity.specs.Calls.{Call, step_at, is_quiet, world}
use Rattle.fidelity.specs.Demand.{CanFire}

-- the process steps among some firings, in order, by a table's words and an image's
unfoldable pub shown : List ℕ → List ℕ → List ℕ → List Step
shown w image [] = []
shown w image (number ∷ numbers) = pick (is_quiet w image number) (shown w image numbers) (step_at w image number ∷ shown w image numbers)

-- the words of a college's table, and of an image that the rewritten table is to have
module _ (w image : List ℕ) where
  -- the steps of the firings that a list of calls made, read as originals
  abbrev pub college_steps : List Call → List Step
  college_steps calls = map (read_step w) (shown (rewritten w) image (world (rewritten w) image calls).plain.made)

  -- some step that reads as the college's can be fired after at most B bookkeeping firings, B of the rewritten table
  pub record CanFireOriginal (calls : List Call) (step : Step) : Type 0 where
    pub fired : Step
    pub reads : read_step w fired ≡ step
    pub fires : CanFire (rewritten w) image (world (rewritten w) image calls) fired

  pub record CollegeAllows (calls : List Call) : Type 0 where
    -- the steps made, read as originals, are open in turn in the college's table
    pub allowed : open_in_turn (scheme w) (start (scheme w)) (college_steps calls) ≡ true
    -- each step that it then has open can be fired
    pub live : (step : Step) → is_step_open (scheme w) (take_steps (scheme w) (start (scheme w)) (college_steps calls)) step ≡ true → CanFireOriginal calls step

  -- some calls show the steps
  pub record ShownBy (steps : List Step) : Type 0 where
    pub calls : List Call
    pub shows : college_steps calls ≡ steps

  -- It holds of the built image wherever the table is accepted with self-calls spared and the rewritten one is within the bounds (proofs/SelfCalls.antt).
  pub record SameShown : Type 0 where
    -- what every list of calls shows, the college's table allows
    pub forth : (calls : List Call) → CollegeAllows calls
    -- every sequence of steps that the college's table allows is shown
    pub back : (steps : List Step) → open_in_turn (scheme w) (start (scheme w)) steps ≡ true → ShownBy steps
