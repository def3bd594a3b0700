-- What the code's steps, bookkeeping and labels stand for.
use Rattle.std.specs.Prelude.{true, ℕ, ◌<◌, ◌≡◌, List, [], ◌∷◌, Option, Some, None}
use Rattle.lists.specs.Lists.{pick}
use Rattle.scheme.specs.Scheme.{Scheme, scheme}
use Rattle.scheme.specs.Kinds.{is_new}
use Rattle.process.specs.States.{State}
use Rattle.process.specs.Steps
use Rattle.process.specs.Steps.{new_step, silent_step, communication, step_call, no_step, is_step_open}
use Rattle.process.specs.Labels
use Rattle.process.specs.Labels.{Meaning, bookkeeping, step, missing, copy, release}
use Rattle.process.specs.StateWords.{state_of}
use Rattle.process.specs.declared.labels.Step.{Step}
use Rattle.process.specs.declared.labels.Step.TheVariants.{New, Silent, Communicate, Call}
use Rattle.process.specs.declared.labels.Bookkeeping as code
use Rattle.process.specs.declared.labels.Bookkeeping.TheVariants.{Copy, Release}
use Rattle.process.specs.declared.labels.Named.{Named}
use Rattle.process.specs.declared.labels.Named.TheVariants.{Bookkeeping, Process}
use Rattle.process.specs.declared.labels.Label.{Label}

abbrev pub meant : Step → Steps.Step
meant (New n) = new_step n
meant (Silent b) = silent_step b
meant (Communicate p) = communication p.send p.receive
meant (Call n) = step_call n

abbrev pub kept : code.Bookkeeping → Labels.Bookkeeping
kept (Copy n x) = copy n x
kept (Release n x) = release n x

-- what a label names
abbrev pub named : Option Named → Meaning
named (Some (Bookkeeping k)) = bookkeeping (kept k)
named (Some (Process s)) = step (meant s)
named None = missing

-- the words of a label
abbrev pub label_words : Label → List ℕ
label_words l = l.kind ∷ l.a ∷ l.b ∷ []

-- a step whose numbers fit the words of a label; a New is at a New
abbrev pub Labelled : Scheme → Steps.Step → Type 0
Labelled S (new_step n) = (is_new (S.node n) ≡ true) × (n < 4294967296)
Labelled S (silent_step b) = b < 4294967296
Labelled S (communication b c) = (b < 4294967296) × (c < 4294967296)
Labelled S (step_call n) = n < 4294967296
Labelled S no_step = ⊥

abbrev pub opened : Option Step → Steps.Step
opened (Some s) = meant s
opened None = no_step

-- the step, if it is open
abbrev pub if_open : Scheme → State → Steps.Step → Steps.Step
if_open S s x = pick (is_step_open S s x) x no_step

-- the step is open in the state that the words are of
abbrev pub Going : List ℕ → List ℕ → Steps.Step → Type 0
Going w ws x = is_step_open (scheme w) (state_of (scheme w) ws) x ≡ true
