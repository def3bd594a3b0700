-- What a call of the C interface returns and leaves (include/dekohuna.h): one word, value·256 + code, and each lent buffer.
use Rattle.std.specs.Prelude.{◌≡◌, List, ◌++◌, ℕ, ◌+◌, ◌*◌, ◌%◌, ◌^◌, drop}
use Rattle.std.proofs.Math.Option.{Option, none, some}
use Rattle.builder.specs.Answer.{BuildOutcome, SizeOutcome}
use Rattle.net.specs.Firing.{Ending, limit_reached, history_full, nothing_enabled, stopped, RunOutcome}
use Rattle.net.specs.Firing as Net
use Rattle.net.specs.Looking.{LookOutcome}
use Rattle.process.specs.Outcomes.{Outcome}
use Rattle.summary.specs.Summary.{Summary, summary}
use Rattle.summary.specs.Calls.{MakeOutcome, KeepOutcome}

-- value·256 + code. A value has 56 bits: no machine has room for a buffer of more elements than that.
unfoldable pub packed : ℕ → ℕ → ℕ
packed value code = value % 2 ^ 56 * 256 + code

-- the word returned, and the lent buffer afterwards
pub record Returned : Type 0 where
  pub word : ℕ
  pub buffer : List ℕ

abbrev pub returned : ℕ → List ℕ → Returned
returned word buffer = record { word = word; buffer = buffer }

-- code 0 is success, 1 to 10 the cause; value is the words written
abbrev pub from_build : BuildOutcome → Returned
from_build o = returned (packed o.words o.number) o.buffer

-- code 0 is success, 1 to 9 the cause; value is the words of the image
abbrev pub from_size : SizeOutcome → ℕ
from_size o = packed o.words o.number

-- code 0 is success, 11 to 16 the cause; value is the firings made
abbrev pub of_firings : Net.Outcome → Returned
of_firings o = returned (packed o.firings o.cause) o.marking

-- code 0 is success, 10 to 16 the cause; value is the bytes written
abbrev pub from_look : LookOutcome → Returned
from_look o = returned (packed o.bytes o.cause) o.next

-- the word returned, and the counts and the set afterwards
pub record SummaryReturned : Type 0 where
  pub word : ℕ
  pub left : Summary

abbrev pub summary_returned : ℕ → List ℕ → List ℕ → SummaryReturned
summary_returned word counts enabled = record { word = word; left = summary counts enabled }

-- code 0 is success, 10 to 13 the cause; value is the transitions counted
abbrev pub of_make : MakeOutcome → SummaryReturned
of_make o = record { word = packed o.transitions o.cause; left = o.left }

-- the word returned, and the marking, the counts and the set afterwards
pub record KeepReturned : Type 0 where
  pub word : ℕ
  pub marking : List ℕ
  pub left : Summary

abbrev pub keep_returned : ℕ → List ℕ → List ℕ → List ℕ → KeepReturned
keep_returned word marking counts enabled = record { word = word; marking = marking; left = summary counts enabled }

-- code 0 is success, 11 to 16 and 20 the cause; value is the firings made
abbrev pub of_keep : KeepOutcome → KeepReturned
of_keep o = record { word = packed o.firings o.cause; marking = o.marking; left = o.left }

-- value is the lowest of a set; code 202 where it has none
abbrev pub of_lowest : Option ℕ → ℕ
of_lowest none = packed 0 202
of_lowest (some transition) = packed transition 0

-- a refusal has no value
abbrev pub value_or0 : Option ℕ → ℕ
value_or0 none = 0
value_or0 (some n) = n

-- code 0 is success, 1 to 10, 13 and 17 to 19 the cause; value is the words written, the labels listed, or the number read back
abbrev pub of_outcome : Outcome → Returned
of_outcome o = returned (packed (value_or0 o.value) o.number) o.left

-- a run's reasons: 200 limit reached, 201 history full, 202 nothing enabled; else the cause
abbrev pub ending_code : Ending → ℕ
ending_code limit_reached = 200
ending_code history_full = 201
ending_code nothing_enabled = 202
ending_code (stopped cause) = cause

-- a run's word, the marking and the history that it left; value is the firings made, and of the history just as many words change
pub record RunReturned (r : RunOutcome) (word : ℕ) (marking history lent : List ℕ) : Type 0 where
  pub word-is : word ≡ packed r.firings (ending_code r.reason)
  pub marking-is : marking ≡ r.marking
  pub history-is : history ≡ r.history ++ drop r.firings lent
