-- Making, keeping and checking a summary (document 02, Item 5), as functions of word lists.
use Rattle.std.specs.Prelude.{ℕ, Bool, not, ◌&&◌, ◌||◌, List, ◌++◌, length, drop, nat_lt}
use Rattle.lists.specs.Lists.{pick, same}
use Rattle.net.specs.Image.{place_count_of, transition_count, is_header_right, are_records_right}
use Rattle.net.specs.Firing.{is_marking, made, refused, step}
use Rattle.summary.specs.Summary.{Summary, summary, set_length, summary_of, same_summary, worked_out, shares}

-- what making a summary answers and leaves: the cause, 0 where none, the transitions counted, and the two lists lent
pub record MakeOutcome : Type 0 where
  pub cause : ℕ
  pub transitions : ℕ
  pub left : Summary

abbrev pub makes : ℕ → ℕ → Summary → MakeOutcome
makes cause transitions left = record { cause = cause; transitions = transitions; left = left }

-- what a firing with a summary answers and leaves: the cause, 0 where none, the firings made, the marking and the summary
pub record KeepOutcome : Type 0 where
  pub cause : ℕ
  pub firings : ℕ
  pub marking : List ℕ
  pub left : Summary

abbrev pub keeps : ℕ → ℕ → List ℕ → Summary → KeepOutcome
keeps cause firings marking left = record { cause = cause; firings = firings; marking = marking; left = left }

module _ (image : List ℕ) where
  -- "A wrong length refuses a firing" (document 02, Item 5)
  abbrev pub are_lengths_right : Summary → Bool
  are_lengths_right s = same (length s.counts) (transition_count image) && same (length s.enabled) (set_length image)

  -- "Making a summary, and firing with one, check every record for 12." (document 02, Item 5): 11, 13, 12, then 10 for either output; "Of a longer output
  -- only the answer's part changes." (document 01, Causes of refusal)
  unfoldable pub make_summary : List ℕ → Summary → MakeOutcome
  make_summary marking lent =
      let s = summary_of image marking in
      pick (not (is_header_right image)) (makes 11 0 lent)
      (pick (not (is_marking (place_count_of image) marking)) (makes 13 0 lent)
      (pick (not (are_records_right image)) (makes 12 0 lent)
      (pick (nat_lt (length lent.counts) (transition_count image) || nat_lt (length lent.enabled) (set_length image)) (makes 10 0 lent)
      (makes 0 (transition_count image) (summary
      (s.counts ++ drop (transition_count image) lent.counts)
      (s.enabled ++ drop (set_length image) lent.enabled))))))

  -- "A firing decides by the marking and works out afresh only transitions that share a place with the fired one … a refused one changes none of it …
  -- 20, summary wrong, after 13." (document 02, Item 5): 11, 13, 20, 14, 12 for every record, 15, 16
  unfoldable pub fire_with : List ℕ → Summary → ℕ → KeepOutcome
  fire_with marking s transition =
      pick (not (is_header_right image)) (keeps 11 0 marking s)
      (pick (not (is_marking (place_count_of image) marking)) (keeps 13 0 marking s)
      (pick (not (are_lengths_right s)) (keeps 20 0 marking s)
      (pick (not (nat_lt transition (transition_count image))) (keeps 14 0 marking s)
      (pick (not (are_records_right image)) (keeps 12 0 marking s)
      (elim (step image marking transition) [
        | made next ↦ keeps 0 1 next (worked_out image (shares image transition) next s)
        | refused cause ↦ keeps cause 0 marking s
      ])))))

  -- "a summary that isn't the marking's is found by an explicit check, which looks at lengths, then every record for 12, then contents" (document 02, Item 5):
  -- 11, 13, 20, 12, 20; 0 where the summary is the marking's
  unfoldable pub check_cause : List ℕ → Summary → ℕ
  check_cause marking s =
      pick (not (is_header_right image)) 11
      (pick (not (is_marking (place_count_of image) marking)) 13
      (pick (not (are_lengths_right s)) 20
      (pick (not (are_records_right image)) 12
      (pick (not (same_summary s (summary_of image marking))) 20 0))))
