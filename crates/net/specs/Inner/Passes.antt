-- One pass of a run's search: the lowest enabled transition met is kept until the search ends, at the first enabled one of the old rule, at the first that is
-- bookkeeping where the run settles first.
use Rattle.std.specs.Prelude.{◌≡◌, Bool, true, not, ◌||◌, List, ℕ, zero, suc, ◌+◌, ◌<◌, Option, Some, None, Result, Ok, Err}
use Rattle.lists.specs.Lists.{pick}
use Rattle.net.specs.declared.Cause.{Cause}
use Rattle.net.specs.declared.Cause.TheVariants.{RecordWrong}
use Rattle.net.specs.declared.Reason.{Reason}
use Rattle.net.specs.Image.{transition_count, label_at, is_bookkeeping, record_right, inputs_at}
use Rattle.net.specs.Firing.{is_enabled, Search, lowest, malformed, nothing, lowest_enabled, or_else, settle_first, made, step, run_by, ended}
use Rattle.net.specs.Answers.{ending}

-- the rule of a run
abbrev pub rule_of : Bool → List ℕ → List ℕ → Search
rule_of settle image marking = pick settle (settle_first image marking) (lowest_enabled image marking)

-- an enabled transition ends the search
abbrev pub is_end_at : List ℕ → Bool → ℕ → Bool
is_end_at image settle transition = not settle || is_bookkeeping (label_at image transition).kind

-- the transitions left from this one upward, with what was kept
unfoldable pub pass_from : List ℕ → List ℕ → Bool → Search → ℕ → ℕ → Search
pass_from image marking settle kept zero transition = kept
pass_from image marking settle kept (suc left) transition =
    pick (not (record_right image transition)) malformed
    (pick (is_enabled marking (inputs_at image transition))
    (pick (is_end_at image settle transition) (lowest transition)
    (pass_from image marking settle (or_else kept (lowest transition)) left (transition + 1)))
    (pass_from image marking settle kept left (transition + 1)))

-- what is kept
abbrev pub kept_as : Option ℕ → Search
kept_as (Some best) = lowest best
kept_as None = nothing

-- what is known of a transition that a search found
pub record Chosen (image marking : List ℕ) (transition : ℕ) : Type 0 where
  pub below : transition < transition_count image
  pub right : record_right image transition ≡ true
  pub enabled : is_enabled marking (inputs_at image transition) ≡ true

-- what a search answers
abbrev pub Finds : List ℕ → List ℕ → Bool → Result (Option ℕ) Cause → Type 0
Finds image marking settle (Ok (Some transition)) = (rule_of settle image marking ≡ lowest transition) × Chosen image marking transition
Finds image marking settle (Ok None) = rule_of settle image marking ≡ nothing
Finds image marking settle (Err cause) = (rule_of settle image marking ≡ malformed) × (cause ≡ RecordWrong)

-- what a turn of a run answers, with the markings before and after it: the number fired, or why the run ends here
abbrev pub Turned : List ℕ → Bool → List ℕ → List ℕ → Result ℕ Reason → Type 0
Turned image settle before after (Ok transition) = (rule_of settle image before ≡ lowest transition) × (step image before transition ≡ made after)
Turned image settle before after (Err reason) =
    ((limit room : ℕ) → run_by image (rule_of settle image) (suc limit) (suc room) before ≡ ended (ending reason) after)
