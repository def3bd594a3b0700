-- What rewriting a table keeps: the claim of specs/Sequences.antt, and that a table without self-calls is its own rewriting.
use mathlib.Core.Path.{◌≡◌, refl, ◌∙◌}
use mathlib.Core.Bool.{Bool, true, false}
use mathlib.Core.List.{List, [], map}
use mathlib.Core.Logic.{◌⊎◌, inl, inr}
use Prim.Native.Nat.{ℕ}
use native.Mathlib.Omega.{arith}
use Rattle.lists.specs.Lists.{pick, same, word}
use Rattle.lists.proofs.Tests.{true-or-false, same_true, same_false}
use Rattle.rewriting.specs.Rewriting.{copied, rewritten}
use Rattle.rewriting.proofs.Family
use Rattle.table.specs.Causes.{are_counts_right, cause_sparing, cause}
use Rattle.rewriting.proofs.Scopes
use Rattle.rewriting.proofs.Following.{Reads}
use Rattle.rewriting.proofs.Answering.{OpenReading, open-reading, same-sequences, label-read}
use Rattle.rewriting.specs.Rewriting.{node_origins, branch_origins, name_origins}
use Rattle.process.specs.States.{start}
use Rattle.process.specs.Steps.{Step, is_step_open}
use Rattle.rewriting.specs.Outcomes.{rewrite_cause}
use Rattle.rewriting.specs.Sequences.{open_in_turn, take_steps, read_step, Rewrites}
use Rattle.scheme.specs.Scheme.{scheme}
use Rattle.table.specs.Accepted.{Accepted}
use Rattle.table.proofs.Accepted.{accepted}
use Rattle.rewriting.proofs.Origins.{reads, definition_origins}
use Rattle.rewriting.proofs.Unchanged

pub rewritten-cause : (w : List ℕ) → cause_sparing w true ≡ 0 → cause (rewritten w) ≡ pick (are_counts_right (rewritten w)) 0 2
rewritten-cause w h = Scopes.cause-new w (Family.sound w h)

parts : (w : List ℕ) → rewrite_cause w ≡ 0 → (cause_sparing w true ≡ 0) × (are_counts_right (rewritten w) ≡ true)
unfolding rewrite_cause
parts w h = go (true-or-false (same (cause_sparing w true) 0))
  where
    within : (b : Bool) → pick {A = ℕ} b 0 2 ≡ 0 → b ≡ true
    within true e = refl
    within false e = absurd (omega arith)

    go : (same (cause_sparing w true) 0 ≡ true) ⊎ (same (cause_sparing w true) 0 ≡ false) → (cause_sparing w true ≡ 0) × (are_counts_right (rewritten w) ≡ true)
    go (inl e) = (same_true _ _ e, within (are_counts_right (rewritten w)) (rw e at h))
    go (inr e) = absurd (same_false _ _ e (rw e at h))

pub rewritten-accepted : (w : List ℕ) → rewrite_cause w ≡ 0 → cause (rewritten w) ≡ 0
rewritten-accepted w h = let t = parts w h in rewritten-cause w t.0 ∙ rw t.1

pub rewritten-scheme : (w : List ℕ) → rewrite_cause w ≡ 0 → Accepted (scheme (rewritten w))
rewritten-scheme w h = accepted (rewritten w) (rewritten-accepted w h)

module _ (w : List ℕ) (h : rewrite_cause w ≡ 0) where
  abbrev reading : Reads (scheme (rewritten w)) (scheme w) (word (node_origins w)) (word (branch_origins w)) (word (name_origins w)) (word (definition_origins w))
  reading = reads w (Family.sound w (parts w h).0)

  -- after the same steps, each step open in the college's table is the reading of one open in the rewritten table
  pub open-read : (xs : List Step) → open_in_turn (scheme (rewritten w)) (start (scheme (rewritten w))) xs ≡ true
      → (y : Step) → is_step_open (scheme w) (take_steps (scheme w) (start (scheme w)) (map (read_step w) xs)) y ≡ true
      → OpenReading (scheme (rewritten w)) (read_step w) (take_steps (scheme (rewritten w)) (start (scheme (rewritten w))) xs) y
  open-read =
      open-reading (scheme (rewritten w)) (scheme w) (rewritten-scheme w h) (word (node_origins w)) (word (branch_origins w)) (word (name_origins w))
      (word (definition_origins w)) reading

  pub rewrites : Rewrites w
  rewrites = record {
    accepted = rewritten-accepted w h;
    sequences =
        same-sequences (scheme (rewritten w)) (scheme w) (rewritten-scheme w h) (word (node_origins w)) (word (branch_origins w)) (word (name_origins w))
        (word (definition_origins w)) reading;
    labels =
        label-read (scheme (rewritten w)) (scheme w) (rewritten-scheme w h) (word (node_origins w)) (word (branch_origins w)) (word (name_origins w))
        (word (definition_origins w)) reading;
  }

-- "Each definition with a direct self-call gets a copy": a table that is accepted with self-calls spared and has none is not changed
pub unchanged-without : (w : List ℕ) → cause_sparing w true ≡ 0 → copied w ≡ [] → rewritten w ≡ w
unchanged-without w h none = Unchanged.no-copies-same w (Family.sound w h) none

-- "Accept such tables by a rewriting step.": a table that is accepted as it stands has none
pub unchanged : (w : List ℕ) → cause w ≡ 0 → rewritten w ≡ w
unchanged = Unchanged.unchanged
