-- Firing by number, replay and run on any net image (document 01, Net image and firing), as functions of word lists.
use Rattle.std.specs.Prelude.{Bool, not, ◌&&◌, List, [], ◌∷◌, ◌++◌, ℕ, zero, suc, ◌+◌, leb, ltb, length, set, replicate}
use Rattle.lists.specs.Lists.{pick, same, word, every, some, member}
use Rattle.net.specs.Image.{place_count_of, transition_count, initial_places, is_header_right, label_at, is_bookkeeping, record_right, inputs_at, outputs_at}

-- "A marking is a byte per place." (document 01, Net image and firing)
-- "marking length not the place count, or a byte above 1 | 13" where this fails (document 01, Causes of refusal)
unfoldable pub is_marking : ℕ → List ℕ → Bool
is_marking places marking = same (length marking) places && every (λ byte. leb byte 1) marking

-- a place has its token
abbrev pub is_place_marked : List ℕ → ℕ → Bool
is_place_marked marking place = same (word marking place) 1

-- every input has its token: "not enabled | 15" where this fails (document 01, Causes of refusal)
unfoldable pub is_enabled : List ℕ → List ℕ → Bool
is_enabled marking inputs = every (is_place_marked marking) inputs

-- "an output place marked that is not also an input | 16" (document 01, Causes of refusal)
unfoldable pub has_contact : List ℕ → List ℕ → List ℕ → Bool
has_contact marking inputs outputs = some (λ place. is_place_marked marking place && not (member place inputs)) outputs

-- one byte at each place of a list
unfoldable pub put : ℕ → List ℕ → List ℕ → List ℕ
put byte marking [] = marking
put byte marking (place ∷ places) = put byte (set marking place byte) places

-- the marking after a firing: the inputs' tokens are taken, then the outputs' given
abbrev pub moved : List ℕ → List ℕ → List ℕ → List ℕ
moved marking inputs outputs = put 1 (put 0 marking inputs) outputs

-- "the initial marking" (document 01, Net image and firing)
unfoldable pub initial_marking : List ℕ → List ℕ
initial_marking image = put 1 (replicate (place_count_of image) 0) (initial_places image)

-- what a number gives at a marking: the marking after its firing, or the number of the cause that refuses it
pub data Step : Type 0 where
  made : List ℕ → Step
  refused : ℕ → Step

-- "A single firing checks 11, 13, 14, 12, 15, 16" (document 01, Causes of refusal): the last two, for the arcs of a right record
unfoldable pub step_of : List ℕ → List ℕ → List ℕ → Step
step_of marking inputs outputs =
    pick (not (is_enabled marking inputs)) (refused 15)
    (pick (has_contact marking inputs outputs) (refused 16)
    (made (moved marking inputs outputs)))

-- the last four: "transition number not below the count | 14", "record or arcs of the transition wrong | 12" (document 01, Causes of
-- refusal), then the two above
unfoldable pub step : List ℕ → List ℕ → ℕ → Step
step image marking transition =
    pick (not (ltb transition (transition_count image))) (refused 14)
    (pick (not (record_right image transition)) (refused 12)
    (step_of marking (inputs_at image transition) (outputs_at image transition)))

-- "number, firings made | as after those firings" (document 01, Causes of refusal): the cause is 0 where nothing was refused
pub record Outcome : Type 0 where
  pub cause : ℕ
  pub firings : ℕ
  pub marking : List ℕ

abbrev pub outcome : ℕ → ℕ → List ℕ → Outcome
outcome cause firings marking = record { cause = cause; firings = firings; marking = marking }

-- an outcome, with n firings more made before it
abbrev pub after : ℕ → Outcome → Outcome
after n o = outcome o.cause (n + o.firings) o.marking

-- numbers fired in turn, until one is refused
unfoldable pub in_turn : List ℕ → List ℕ → List ℕ → Outcome
in_turn image marking [] = outcome 0 0 marking
in_turn image marking (number ∷ numbers) =
    elim (step image marking number) [
      | made next ↦ after 1 (in_turn image next numbers)
      | refused cause ↦ outcome cause 0 marking
    ]

-- "A single firing checks 11, 13, 14, 12, 15, 16 and makes 0 firings before a refusal." (document 01, Causes of refusal)
unfoldable pub fire : List ℕ → List ℕ → ℕ → Outcome
fire image marking transition =
    pick (not (is_header_right image)) (outcome 11 0 marking)
    (pick (not (is_marking (place_count_of image) marking)) (outcome 13 0 marking)
    (in_turn image marking (transition ∷ [])))

-- "Replay starts afresh from the initial marking; of the lent marking only the length is checked. Refused at its first number, it
-- leaves the initial marking." (document 01, Net image and firing)
unfoldable pub replay : List ℕ → List ℕ → List ℕ → Outcome
replay image marking numbers =
    pick (not (is_header_right image)) (outcome 11 0 marking)
    (pick (not (same (length marking) (place_count_of image))) (outcome 13 0 marking)
    (in_turn image (initial_marking image) numbers))

-- "A run fires the lowest enabled transition … It stops at a malformed record met in the search (12)." (document 01, Net image and firing)
pub data Search : Type 0 where
  lowest : ℕ → Search
  malformed : Search
  nothing : Search

-- the first, of the transitions left from this one upward, whose record is wrong or whose inputs all have their tokens
unfoldable pub search_from : List ℕ → List ℕ → ℕ → ℕ → Search
search_from image marking zero transition = nothing
search_from image marking (suc left) transition =
    pick (not (record_right image transition)) malformed
    (pick (is_enabled marking (inputs_at image transition)) (lowest transition)
    (search_from image marking left (transition + 1)))

-- the search of the old rule, over all transitions
unfoldable pub lowest_enabled : List ℕ → List ℕ → Search
lowest_enabled image marking = search_from image marking (transition_count image) 0

-- the first, of the transitions left from this one upward, whose record is wrong, or that is bookkeeping and whose inputs all have their tokens
unfoldable pub quiet_from : List ℕ → List ℕ → ℕ → ℕ → Search
quiet_from image marking zero transition = nothing
quiet_from image marking (suc left) transition =
    pick (not (record_right image transition)) malformed
    (pick (is_enabled marking (inputs_at image transition) && is_bookkeeping (label_at image transition).kind) (lowest transition)
    (quiet_from image marking left (transition + 1)))

-- what one search finds, else what another does
abbrev pub or_else : Search → Search → Search
or_else (lowest transition) other = lowest transition
or_else malformed other = malformed
or_else nothing other = other

-- "The rule when none is named becomes: the lowest enabled bookkeeping transition, else the lowest enabled one. All records up to an enabled bookkeeping one
-- are met in its search." (document 02, Item 6)
unfoldable pub settle_first : List ℕ → List ℕ → Search
settle_first image marking = or_else (quiet_from image marking (transition_count image) 0) (lowest_enabled image marking)

-- why a run ends: one of three reasons, or the number of a cause
pub data Ending : Type 0 where
  limit_reached : Ending
  history_full : Ending
  nothing_enabled : Ending
  stopped : ℕ → Ending

-- "writes each number to the history, and answers with a reason and its count of firings" (document 01, Net image and firing)
pub record RunOutcome : Type 0 where
  pub reason : Ending
  pub firings : ℕ
  pub marking : List ℕ
  pub history : List ℕ

-- a run that ends before another firing
abbrev pub ended : Ending → List ℕ → RunOutcome
ended reason marking = record { reason = reason; firings = 0; marking = marking; history = [] }

-- a run that first made the numbers given
abbrev pub preceded : List ℕ → RunOutcome → RunOutcome
preceded numbers r =
    record { reason = r.reason; firings = length numbers + r.firings; marking = r.marking; history = numbers ++ r.history }

-- "Before each firing it looks at limit reached, then history full (never 10), then nothing enabled." (document 01, Net image and firing):
-- by the rule that finds what is fired; limit and room are what is left of the limit and of the history's words
unfoldable pub run_by : List ℕ → (List ℕ → Search) → ℕ → ℕ → List ℕ → RunOutcome
run_by image rule zero room marking = ended limit_reached marking
run_by image rule (suc limit) zero marking = ended history_full marking
run_by image rule (suc limit) (suc room) marking =
    elim (rule marking) [
      | nothing ↦ ended nothing_enabled marking
      | malformed ↦ ended (stopped 12) marking
      | lowest transition ↦
          elim (step image marking transition) [
            | made next ↦ preceded (transition ∷ []) (run_by image rule limit room next)
            | refused cause ↦ ended (stopped cause) marking
          ]
    ]

-- a run checks 11 and 13 before everything else, and its history only lends words to write: their number is the room
unfoldable pub run_of : List ℕ → (List ℕ → Search) → List ℕ → ℕ → ℕ → RunOutcome
run_of image rule marking limit room =
    pick (not (is_header_right image)) (ended (stopped 11) marking)
    (pick (not (is_marking (place_count_of image) marking)) (ended (stopped 13) marking)
    (run_by image rule limit room marking))

-- a run that names no rule, and "The old rule remains by name." (document 02, Item 6)
abbrev pub run : List ℕ → List ℕ → ℕ → ℕ → RunOutcome
run image marking limit room = run_of image (settle_first image) marking limit room

abbrev pub run_of_lowest : List ℕ → List ℕ → ℕ → ℕ → RunOutcome
run_of_lowest image marking limit room = run_of image (lowest_enabled image) marking limit room
