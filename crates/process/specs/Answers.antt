-- Document 01's number, and the value, of each case of an answer, and the process step that the code's steps stand for.
use Rattle.std.proofs.Math.Option.{Option, none, some}
use Rattle.std.specs.Prelude.{List, ℕ, Result, Ok, Err}
use Rattle.table.specs.Answer.{cause_number}
use Rattle.process.specs.Outcomes.{Outcome}
use Rattle.process.specs.declared.Refusal.{Refusal}
use Rattle.process.specs.declared.Refusal.TheVariants.{Table, Malformed, NotOpen, NoRoom}

abbrev pub refusal_number : Refusal → ℕ
refusal_number (Table cause) = cause_number cause
refusal_number Malformed = 18
refusal_number NotOpen = 19
refusal_number NoRoom = 10

abbrev pub answer_number : Result ℕ Refusal → ℕ
answer_number (Ok n) = 0
answer_number (Err refusal) = refusal_number refusal

abbrev pub answer_value : Result ℕ Refusal → Option ℕ
answer_value (Ok n) = some n
answer_value (Err refusal) = none

-- an answer with the lent words as the call left them
abbrev pub outcome_of : Result ℕ Refusal → List ℕ → Outcome
outcome_of answer words = record { number = answer_number answer; value = answer_value answer; left = words }
