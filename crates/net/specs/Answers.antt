-- The documents' number and values for each case of the calls' answers.
use Rattle.std.specs.Prelude.{◌≡◌, List, ◌++◌, ℕ, drop, Result, Ok, Err, ⊤}
use Rattle.net.specs.declared.Cause.{Cause}
use Rattle.net.specs.declared.Cause.TheVariants.{ImageWrong, RecordWrong, MarkingWrong, NoTransition, NotEnabled, Contact}
use Rattle.net.specs.declared.Refusal.{Refusal}
use Rattle.net.specs.declared.Refusal.TheVariants as refusals
use Rattle.net.specs.declared.Replayed.{Replayed}
use Rattle.net.specs.declared.Reason.{Reason}
use Rattle.net.specs.declared.Reason.TheVariants.{LimitReached, HistoryFull, NothingEnabled, Stopped}
use Rattle.net.specs.declared.Ran.{Ran}
use Rattle.net.specs.Firing.{Outcome, outcome, Ending, limit_reached, history_full, nothing_enabled, stopped, RunOutcome}
use Rattle.net.specs.Looking.{LookOutcome, looked}

-- the number of each cause (document 01, Causes of refusal)
abbrev pub cause_number : Cause → ℕ
cause_number ImageWrong = 11
cause_number RecordWrong = 12
cause_number MarkingWrong = 13
cause_number NoTransition = 14
cause_number NotEnabled = 15
cause_number Contact = 16

-- the number of an answer, 0 where nothing was refused
abbrev pub firing_number : Result ⊤ Cause → ℕ
firing_number (Ok done) = 0
firing_number (Err cause) = cause_number cause

-- the firings that a single firing made
abbrev pub firings_made : Result ⊤ Cause → ℕ
firings_made (Ok done) = 1
firings_made (Err cause) = 0

-- a single firing's answer with the marking that it left
abbrev pub firing_outcome : Result ⊤ Cause → List ℕ → Outcome
firing_outcome answer marking = outcome (firing_number answer) (firings_made answer) marking

-- the number of a look's answer, 0 where nothing was refused
abbrev pub look_number : Result ℕ Refusal → ℕ
look_number (Ok bytes) = 0
look_number (Err (refusals.Cause cause)) = cause_number cause
look_number (Err refusals.NoRoom) = 10

-- the bytes that a look wrote
abbrev pub bytes_shown : Result ℕ Refusal → ℕ
bytes_shown (Ok bytes) = bytes
bytes_shown (Err (refusals.Cause cause)) = 0
bytes_shown (Err refusals.NoRoom) = 0

-- a look's answer with the second buffer that it left
abbrev pub look_outcome : Result ℕ Refusal → List ℕ → LookOutcome
look_outcome answer next = looked (look_number answer) (bytes_shown answer) next

-- a replay's answer with the marking that it left
abbrev pub replay_outcome : Replayed → List ℕ → Outcome
replay_outcome answer marking = outcome (firing_number answer.outcome) answer.firings marking

-- the reason that a run answers
abbrev pub ending : Reason → Ending
ending LimitReached = limit_reached
ending HistoryFull = history_full
ending NothingEnabled = nothing_enabled
ending (Stopped cause) = stopped (cause_number cause)

-- "For enum answers, a definition gives this paper's number and values for each case, and the promises use that definition." (document 01,
-- What form each place needs): a run's answer, the marking and the history that it left are those of the definition; "Of a longer output only
-- the answer's part changes." (document 01, Causes of refusal)
pub record Leaves (r : RunOutcome) (answer : Ran) (marking history lent : List ℕ) : Type 0 where
  pub reason : ending answer.reason ≡ r.reason
  pub firings : answer.firings ≡ r.firings
  pub marking-is : marking ≡ r.marking
  pub history-is : history ≡ r.history ++ drop r.firings lent
