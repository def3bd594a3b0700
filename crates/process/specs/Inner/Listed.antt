-- Labels written one after another, and branches gathered, as far as a buffer reaches.
use Rattle.std.specs.Prelude.{◌≡◌, ◌&&◌, List, [], ◌∷◌, ◌++◌, ℕ, ◌+◌, ◌≤◌, ltb, length, drop}
use Rattle.std.proofs.lemmas.List.Edits.{sets}
use Rattle.lists.specs.Lists.{pick, same, range, flat}
use Rattle.scheme.specs.Words.{branches, branch_kind}
use Rattle.scheme.specs.Scheme.{Scheme, scheme}
use Rattle.scheme.specs.Kinds.{is_silent}
use Rattle.process.specs.States.{State}
use Rattle.process.specs.Steps.{silent_step, communication, is_step_open, is_standing_at}
use Rattle.process.specs.Labels.{label_of, steps_of_node}

-- the words are written from place i on, as far as the buffer reaches; the next place is r, not far from i
pub record Listed (most : ℕ) (words before : List ℕ) (i : ℕ) (after : List ℕ) (r : ℕ) : Type 0 where
  pub written : after ≡ sets before i words
  pub next : r ≡ i + length words
  pub few : r ≤ i + most

-- a place to write at lies far below what a number can be; one where many words follow lies nearer
abbrev pub far : ℕ
far = 1000000000000000

abbrev pub near : ℕ
near = 100000000000000

module _ (S : Scheme) where
  -- the label of a branch, if it is silent
  unfoldable pub silent_words : ℕ → List ℕ
  silent_words b = pick (is_silent (S.branch b)) (label_of S (silent_step b)) []

  -- the labels of a node's steps
  unfoldable pub step_words : ℕ → List ℕ
  step_words n = flat (label_of S) (steps_of_node S n (S.node n))

  module _ (s : State) where
    -- these, if its thread stands at it
    unfoldable pub node_words : ℕ → List ℕ
    node_words n = pick (is_standing_at S s n) (step_words n) []

    -- the label of a communication, if it is open
    unfoldable pub pair_words : ℕ → ℕ → List ℕ
    pair_words b c = pick (is_step_open S s (communication b c)) (label_of S (communication b c)) []

    -- the labels of a send with each of the receives, and of each of the sends
    unfoldable pub pairs_words : List ℕ → ℕ → List ℕ
    pairs_words receives b = flat (pair_words b) receives

    unfoldable pub meeting_words : List ℕ → List ℕ → List ℕ
    meeting_words sends receives = flat (pairs_words receives) sends

    -- all of them
    unfoldable pub list_words : List ℕ → List ℕ → List ℕ
    list_words sends receives = flat node_words (range S.nodes) ++ meeting_words sends receives

-- a branch of the kind whose thread stands at its node
unfoldable pub standing : List ℕ → State → ℕ → ℕ → List ℕ
standing w s kind b = pick ((ltb b (branches w) && same (branch_kind w b) kind) && is_standing_at (scheme w) s ((scheme w).home b)) (b ∷ []) []

-- the words are written if there is room for all of them; r is how many there are
pub record Fitted (words before after : List ℕ) (r : ℕ) : Type 0 where
  pub size : r ≡ length words
  pub left : after ≡ pick (ltb (length before) (length words)) before (words ++ drop (length words) before)
