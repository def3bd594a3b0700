-- What is claimed of summaries, on any image and at any marking (document 02, Item 5). Proved in proofs/Stays.antt and proofs/Tells.antt.
use Rattle.std.specs.Prelude.{◌≡◌, ℕ, true, List, length}
use Rattle.std.proofs.Math.Option.{Option, none, some}
use Rattle.lists.specs.Lists.{range, keep}
use Rattle.net.specs.Image.{transition_count, are_records_right, inputs_at}
use Rattle.net.specs.Firing.{is_enabled, Search, lowest, malformed, nothing, lowest_enabled}
use Rattle.summary.specs.Sets.{lowest_in, number_in}
use Rattle.summary.specs.Summary.{Summary, summary_of}
use Rattle.summary.specs.Calls.{keeps, fire_with, check_cause}

-- what a search found
abbrev pub found_by : Search → Option ℕ
found_by (lowest transition) = some transition
found_by malformed = none
found_by nothing = none

module _ (image marking : List ℕ) where
  pub record Stays (transition : ℕ) (s : Summary) : Type 0 where
    -- "If the summary was the marking's, it is so after any accepted firing"
    pub accepted : s ≡ summary_of image marking
        → (fire_with image marking s transition).left ≡ summary_of image (fire_with image marking s transition).marking
    -- "a refused one changes none of it", whatever was lent
    pub refused : (fire_with image marking s transition).firings ≡ 0
        → fire_with image marking s transition ≡ keeps (fire_with image marking s transition).cause 0 marking s

  pub record Tells : Type 0 where
    -- "The lowest enabled one is found by counting trailing zeros": in the marking's summary it is what a search of all transitions finds
    pub lowest : are_records_right image ≡ true → lowest_in (summary_of image marking).enabled ≡ found_by (lowest_enabled image marking)
    -- "and their number by counting ones"
    pub number : number_in (summary_of image marking).enabled
        ≡ length (keep (λ transition. is_enabled marking (inputs_at image transition)) (range (transition_count image)))
    -- "a summary that isn't the marking's is found by an explicit check": one that is let through is the marking's
    pub checked : (s : Summary) → check_cause image marking s ≡ 0 → s ≡ summary_of image marking
