-- The documents' number and values for each case of the calls' answers.
use Rattle.std.proofs.Math.Option.{Option, none, some}
use Rattle.std.specs.Prelude.{ℕ, ◌+◌, ◌*◌, List, Result, Ok, Err, Some, None, ⊤}
use Rattle.std.specs.Prelude as std
use Rattle.net.specs.Answers.{cause_number}
use Rattle.net.specs.declared.Refusal as refused
use Rattle.net.specs.declared.Refusal.TheVariants as refusals
use Rattle.summary.specs.declared.Refusal.{Refusal}
use Rattle.summary.specs.declared.Refusal.TheVariants.{Cause, SummaryWrong}
use Rattle.summary.specs.Summary.{summary}
use Rattle.summary.specs.Calls.{MakeOutcome, makes, KeepOutcome, keeps}

-- the number of an answer, 0 where nothing was refused
abbrev pub made_number : Result ℕ refused.Refusal → ℕ
made_number (Ok transitions) = 0
made_number (Err (refusals.Cause cause)) = cause_number cause
made_number (Err refusals.NoRoom) = 10

abbrev pub transitions_counted : Result ℕ refused.Refusal → ℕ
transitions_counted (Ok transitions) = transitions
transitions_counted (Err (refusals.Cause cause)) = 0
transitions_counted (Err refusals.NoRoom) = 0

-- the answer of making a summary, with the two lists that it left
abbrev pub make_outcome : Result ℕ refused.Refusal → List ℕ → List ℕ → MakeOutcome
make_outcome answer counts enabled = makes (made_number answer) (transitions_counted answer) (summary counts enabled)

-- "New numbers: 20, summary wrong" (document 02, Item 5)
abbrev pub kept_number : Result ⊤ Refusal → ℕ
kept_number (Ok done) = 0
kept_number (Err (Cause cause)) = cause_number cause
kept_number (Err SummaryWrong) = 20

abbrev pub firings_kept : Result ⊤ Refusal → ℕ
firings_kept (Ok done) = 1
firings_kept (Err (Cause cause)) = 0
firings_kept (Err SummaryWrong) = 0

-- the answer of a firing with a summary, with the marking and the two lists that it left
abbrev pub keep_outcome : Result ⊤ Refusal → List ℕ → List ℕ → List ℕ → KeepOutcome
keep_outcome answer marking counts enabled = keeps (kept_number answer) (firings_kept answer) marking (summary counts enabled)

-- the transition that a word and a bit of it tell, or none
abbrev pub lowest_found : std.Option (ℕ × ℕ) → Option ℕ
lowest_found (Some (word, bit)) = some (64 * word + bit)
lowest_found None = none
