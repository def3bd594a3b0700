-- What the three calls answer and what they leave in the lent words (document 01, Process rules and Causes of refusal).
use Rattle.std.specs.Prelude.{List, ◌++◌, ℕ, ◌+◌, ltb, length, drop}
use Rattle.std.proofs.Math.Option.{Option, none, some}
use Rattle.lists.specs.Lists.{pick, same}
use Rattle.table.specs.Causes.{cause}
use Rattle.scheme.specs.Scheme.{Scheme, scheme}
use Rattle.process.specs.States.{start}
use Rattle.process.specs.Steps.{take, is_step_open}
use Rattle.process.specs.Labels.{step_of, open_step_list, open_labels}
use Rattle.process.specs.StateWords.{state_words, state_of, is_well_formed}

-- a cause's number, 0 where nothing is refused; what an answer that is no refusal says; the lent words as the call leaves them
pub record Outcome : Type 0 where
  pub number : ℕ
  pub value : Option ℕ
  pub left : List ℕ

-- a refusal returns the number and leaves all buffers
abbrev pub refusal : ℕ → List ℕ → Outcome
refusal number lent = record { number = number; value = none; left = lent }

-- "Of a longer output only the answer's part changes."
abbrev pub written : ℕ → List ℕ → List ℕ → Outcome
written value words lent = record { number = 0; value = some value; left = words ++ drop (length words) lent }

-- 10: "lent output shorter than the answer"; "10 is checked last in every call"
unfoldable pub answered : ℕ → List ℕ → List ℕ → Outcome
answered value words lent = pick (ltb (length lent) (length words)) (refusal 10 lent) (written value words lent)

-- "Checking a table precedes checking anything else"
abbrev pub checked : List ℕ → List ℕ → Outcome → Outcome
checked w lent rest = pick (same (cause w) 0) rest (refusal (cause w) lent)

-- the words of the starting state; the answer says how many
unfoldable pub start_outcome : List ℕ → List ℕ → Outcome
start_outcome w lent =
    let S = scheme w in
    checked w lent (answered (S.threads + S.bounds) (state_words S (start S)) lent)

-- 18: "state words malformed"
abbrev pub formed : Scheme → List ℕ → List ℕ → Outcome → Outcome
formed S ws lent rest = pick (is_well_formed S ws) rest (refusal 18 lent)

-- "A call lists the open steps as labels in the image's label order, each once": three words a label; the answer says how many labels
unfoldable pub open_outcome : List ℕ → List ℕ → List ℕ → Outcome
open_outcome w ws lent =
    let S = scheme w in
    checked w lent (formed S ws lent (answered (length (open_step_list S (state_of S ws))) (open_labels S (state_of S ws)) lent))

-- "another takes one". 19: "step not open"
unfoldable pub step_outcome : List ℕ → List ℕ → ℕ → ℕ → ℕ → List ℕ → Outcome
step_outcome w ws kind a b lent =
    let S = scheme w in
    let x = step_of S kind a b in
    checked w lent (formed S ws lent
    (pick (is_step_open S (state_of S ws) x) (answered (S.threads + S.bounds) (state_words S (take S x (state_of S ws))) lent) (refusal 19 lent)))
