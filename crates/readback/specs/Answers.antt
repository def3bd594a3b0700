-- What `read` answers and leaves in the lent words (document 01, Causes of refusal): "13", "17", and 10 last.
use Rattle.std.specs.Prelude.{List, ℕ, Result, Ok, Err, length}
use Rattle.std.proofs.Math.Option.{Option, none, some}
use Rattle.table.specs.Answer.{cause_number}
use Rattle.table.specs.Causes.{cause}
use Rattle.places.specs.declared.Refusal as planned
use Rattle.places.specs.declared.Refusal.TheVariants as planned_as
use Rattle.process.specs.Outcomes.{Outcome, refusal, answered, checked}
use Rattle.readback.specs.Reading.{Reading, refused, words, reading_back}
use Rattle.readback.specs.declared.Refusal.{Refusal}
use Rattle.readback.specs.declared.Refusal.TheVariants.{Table, NoMarking, NoState, NoRoom}

abbrev pub refusal_number : Refusal → ℕ
refusal_number (Table cause) = cause_number cause
refusal_number NoMarking = 13
refusal_number NoState = 17
refusal_number NoRoom = 10

-- a refusal of the plan
abbrev pub of_plan : planned.Refusal → Refusal
of_plan (planned_as.Table cause) = Table cause
of_plan planned_as.NoRoom = NoRoom

abbrev pub answer_number : Result ℕ Refusal → ℕ
answer_number (Ok n) = 0
answer_number (Err refusal) = refusal_number refusal

abbrev pub answer_value : Result ℕ Refusal → Option ℕ
answer_value (Ok n) = some n
answer_value (Err refusal) = none

-- an answer with the lent words as the call left them
abbrev pub outcome_of : Result ℕ Refusal → List ℕ → Outcome
outcome_of answer left = record { number = answer_number answer; value = answer_value answer; left = left }

-- what was read, in the lent words; "Of a longer output only the answer's part changes."
abbrev pub read_into : List ℕ → Reading → Outcome
read_into lent (refused cause) = refusal cause lent
read_into lent (words ws) = answered (length ws) ws lent

-- of an accepted table
abbrev pub laid_outcome : List ℕ → List ℕ → List ℕ → Outcome
laid_outcome w m lent = read_into lent (reading_back w m)

-- "Checking a table precedes checking anything else; 10 is checked last in every call"
unfoldable pub read_outcome : List ℕ → List ℕ → List ℕ → Outcome
read_outcome w m lent = checked w lent (laid_outcome w m lent)
