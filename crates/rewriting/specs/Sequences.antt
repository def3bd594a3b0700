-- The claim of Item 1 about steps (document 02): "A college's own table then allows exactly the sequences of process steps that the net shows, with labels
-- of copies read as their originals'." Here with the rewritten table for its net, which demand 3 joins to it. "There a self-call reads all its arguments
-- before any name ends.": the college's own steps are those of document 01's process rules on the college's scheme, and a Call reads every value from
-- the state that it leaves.
use Rattle.std.specs.Prelude.{◌≡◌, Bool, true, ◌&&◌, List, [], ◌∷◌, map, ℕ}
use Rattle.lists.specs.Lists.{pick, same, word}
use Rattle.scheme.specs.Scheme.{Scheme, scheme}
use Rattle.table.specs.Causes.{cause}
use Rattle.process.specs.States.{State, start}
use Rattle.process.specs.Steps.{Step, new_step, silent_step, communication, step_call, no_step, take, is_step_open}
use Rattle.process.specs.Labels.{label_of}
use Rattle.rewriting.specs.Rewriting.{rewritten, node_origins, branch_origins, name_origins}

-- the state after some steps
unfoldable pub take_steps : Scheme → State → List Step → State
take_steps S s [] = s
take_steps S s (x ∷ xs) = take_steps S (take S x s) xs

-- steps that are open each when its turn comes
unfoldable pub open_in_turn : Scheme → State → List Step → Bool
open_in_turn S s [] = true
open_in_turn S s (x ∷ xs) = is_step_open S s x && open_in_turn S (take S x s) xs

-- a step with its numbers read as their originals
abbrev pub origin_step : (ℕ → ℕ) → (ℕ → ℕ) → Step → Step
origin_step node branch (new_step n) = new_step (node n)
origin_step node branch (silent_step b) = silent_step (branch b)
origin_step node branch (communication b c) = communication (branch b) (branch c)
origin_step node branch (step_call n) = step_call (node n)
origin_step node branch no_step = no_step

-- a label with its numbers read as their originals: of 2 new a node and a name, of 3 silent a branch, of 4 communication two branches, of 5 call a node
unfoldable pub origin_label : (ℕ → ℕ) → (ℕ → ℕ) → (ℕ → ℕ) → List ℕ → List ℕ
origin_label node branch name l =
    pick (same (word l 0) 2) (2 ∷ node (word l 1) ∷ name (word l 2) ∷ [])
    (pick (same (word l 0) 3) (3 ∷ branch (word l 1) ∷ 0 ∷ [])
    (pick (same (word l 0) 4) (4 ∷ branch (word l 1) ∷ branch (word l 2) ∷ [])
    (5 ∷ node (word l 1) ∷ 0 ∷ [])))

-- the one sequence of steps of R, open in turn, that reads as ys
pub record OneReading (R : Scheme) (read : Step → Step) (s : State) (ys : List Step) : Type 0 where
  pub steps : List Step
  pub reads : map read steps ≡ ys
  pub opens : open_in_turn R s steps ≡ true
  pub alone : (xs : List Step) → map read xs ≡ ys → open_in_turn R s xs ≡ true → xs ≡ steps

-- R allows exactly the sequences of steps that S allows, each read
pub record SameSequences (R S : Scheme) (read : Step → Step) : Type 0 where
  -- every sequence open in turn from the start of R reads as one open in turn from the start of S
  pub forth : (xs : List Step) → open_in_turn R (start R) xs ≡ true → open_in_turn S (start S) (map read xs) ≡ true
  -- every sequence open in turn from the start of S is the reading of exactly one
  pub back : (ys : List Step) → open_in_turn S (start S) ys ≡ true → OneReading R read (start R) ys

module _ (w : List ℕ) where
  -- steps and labels of the rewritten table as the college's
  abbrev pub read_step : Step → Step
  read_step = origin_step (word (node_origins w)) (word (branch_origins w))

  abbrev pub read_label : List ℕ → List ℕ
  read_label = origin_label (word (node_origins w)) (word (branch_origins w)) (word (name_origins w))

  -- It holds of every table that is accepted with self-calls spared and whose rewritten table is within the bounds (`rewrites`, proofs/Theorem.antt). Such a
  -- table without self-calls is its own rewriting (`unchanged-without`, there), and so is one that is accepted as it stands (`unchanged`).
  pub record Rewrites : Type 0 where
    -- the rewritten table is accepted, so every promise and demand 3 hold of it
    pub accepted : cause (rewritten w) ≡ 0
    -- it allows the college's sequences
    pub sequences : SameSequences (scheme (rewritten w)) (scheme w) read_step
    -- an open step's label, read, is the label of the step read
    pub labels : (s : State) (x : Step) → is_step_open (scheme (rewritten w)) s x ≡ true
        → label_of (scheme w) (read_step x) ≡ read_label (label_of (scheme (rewritten w)) x)
