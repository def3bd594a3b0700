-- Lists of calls on a net's image, and the plain process that hears them (document 01, Net image and firing): "Demand 3 is a single claim about the list, not one
-- for each call. A run reads nothing from its history buffer; what it wrote may be lent to a replay as its numbers."
use Rattle.std.specs.Prelude.{Bool, ◌||◌, List, [], ◌∷◌, ◌++◌, ℕ, take}
use Rattle.lists.specs.Lists.{pick, same}
use Rattle.scheme.specs.Scheme.{scheme}
use Rattle.process.specs.States.{State, start}
use Rattle.process.specs.Steps as Steps
use Rattle.process.specs.Steps.{Step}
use Rattle.process.specs.Labels.{step_of}
use Rattle.net.specs.Image.{label_at, is_bookkeeping}
use Rattle.net.specs.Firing as Firing
use Rattle.net.specs.Firing.{Outcome, outcome, RunOutcome, Ending, limit_reached, history_full, nothing_enabled, stopped, initial_marking}
use Rattle.summary.specs.Summary.{Summary}
use Rattle.summary.specs.Calls as Keeping
use Rattle.summary.specs.Calls.{KeepOutcome}

-- a firing by number, alone or with a summary that is lent, a run that settles first and one by the old rule, each with its limit and the length of its
-- history, a replay with its numbers
pub data Call : Type 0 where
  fire : ℕ → Call
  fire_with : Summary → ℕ → Call
  run : ℕ → ℕ → Call
  run_of_lowest : ℕ → ℕ → Call
  replay : List ℕ → Call

-- what a call tells: the cause that it was refused or stopped with, 0 if none, its count of firings, and the words that a run wrote
pub record Answer : Type 0 where
  pub cause : ℕ
  pub firings : ℕ
  pub written : List ℕ

-- what a call leaves: its answer, and the marking
pub record Result : Type 0 where
  pub answer : Answer
  pub marking : List ℕ

abbrev pub result : ℕ → ℕ → List ℕ → List ℕ → Result
result cause firings written marking = record { answer = record { cause = cause; firings = firings; written = written }; marking = marking }

abbrev pub ending_cause : Ending → ℕ
ending_cause limit_reached = 0
ending_cause history_full = 0
ending_cause nothing_enabled = 0
ending_cause (stopped cause) = cause

abbrev pub of_outcome : Outcome → Result
of_outcome o = result o.cause o.firings [] o.marking

-- what it leaves of the summary is not told
abbrev pub of_keep : KeepOutcome → Result
of_keep k = of_outcome (outcome k.cause k.firings k.marking)

abbrev pub from_run : RunOutcome → Result
from_run r = result (ending_cause r.reason) r.firings r.history r.marking

-- The plain process: "It holds a state, first the starting one, and the firings made, first none"
pub record Plain : Type 0 where
  pub state : State
  pub made : List ℕ

abbrev pub begun : List ℕ → Plain
begun w = record { state = start (scheme w); made = [] }

-- all calls so far: the marking that the last one left, the plain process, the answers
pub record World : Type 0 where
  pub marking : List ℕ
  pub plain : Plain
  pub answers : List Answer

-- "a call refused by a cause that leaves all buffers"
abbrev pub leaves_all : ℕ → Bool
leaves_all cause = same cause 11 || same cause 13

-- a table's words and an image's
module _ (w image : List ℕ) where
  -- a call on the image, by the definitions that the promises of net::fire, summary::fire, net::run, net::run_lowest and net::replay cite
  abbrev pub perform : List ℕ → Call → Result
  perform marking (fire number) = of_outcome (Firing.fire image marking number)
  perform marking (fire_with summary number) = of_keep (Keeping.fire_with image marking summary number)
  perform marking (run limit room) = from_run (Firing.run image marking limit room)
  perform marking (run_of_lowest limit room) = from_run (Firing.run_of_lowest image marking limit room)
  perform marking (replay numbers) = of_outcome (Firing.replay image marking numbers)

  -- "A plain process knows the table and the image's labels."
  abbrev pub label_words : ℕ → List ℕ
  label_words number = (label_at image number).kind ∷ (label_at image number).a ∷ (label_at image number).b ∷ []

  abbrev pub step_at : ℕ → Step
  step_at number = step_of (scheme w) (label_at image number).kind (label_at image number).a (label_at image number).b

  abbrev pub is_quiet : ℕ → Bool
  is_quiet number = is_bookkeeping (label_at image number).kind

  -- "Each number made keeps the state if its label is bookkeeping, else takes that step."
  abbrev pub advance : State → ℕ → State
  advance s number = pick (is_quiet number) s (Steps.take (scheme w) (step_at number) s)

  unfoldable pub advances : State → List ℕ → State
  advances s [] = s
  advances s (number ∷ numbers) = advances (advance s number) numbers

  abbrev pub makes : Plain → List ℕ → Plain
  makes p numbers = record { state = advances p.state numbers; made = p.made ++ numbers }

  -- "It is fed, call by call, the numbers given, the answer and the words a run wrote, never the marking."
  -- "firing, also in the forms of document 02: its number, or none if refused"; "run: its history's first words, as many as its count"; "replay: back to the
  -- starting state and no firings made, then all its numbers, or, stopped, as many first ones as it answers"; "a call refused by a cause that leaves all
  -- buffers: no change"
  abbrev pub hears : Plain → Call → Answer → Plain
  hears p (fire number) a = pick (same a.cause 0) (makes p (number ∷ [])) p
  hears p (fire_with summary number) a = pick (same a.cause 0) (makes p (number ∷ [])) p
  hears p (run limit room) a = makes p (take a.firings a.written)
  hears p (run_of_lowest limit room) a = makes p (take a.firings a.written)
  hears p (replay numbers) a = pick (leaves_all a.cause) p (makes (begun w) (take a.firings numbers))

  abbrev pub called_on : World → Call → World
  called_on v c =
      let r : Result = perform v.marking c in
      record { marking = r.marking; plain = hears v.plain c r.answer; answers = v.answers ++ (r.answer ∷ []) }

  unfoldable pub after : World → List Call → World
  after v [] = v
  after v (c ∷ cs) = after (called_on v c) cs

  -- the calls in turn, the first on the initial marking
  abbrev pub world : List Call → World
  world calls = after (record { marking = initial_marking image; plain = begun w; answers = [] }) calls
