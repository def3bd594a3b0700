-- The list of what can be done next (document 02, Item 5): "Keep beside a marking the number of unmarked inputs of each transition, as a 32-bit word, and a
-- set of enabled transitions in 64-bit words".
use Rattle.std.specs.Prelude.{ℕ, ◌+◌, ◌/◌, Bool, true, false, not, ◌&&◌, List, [], ◌∷◌, ◌++◌, map, length, nat_lt}
use Rattle.lists.specs.Lists.{pick, same, word, range, some, keep, member}
use Rattle.net.specs.Image.{transition_count, inputs_at, outputs_at}
use Rattle.net.specs.Firing.{is_place_marked, is_enabled}
use Rattle.summary.specs.Sets.{is_in_set, words_of}

pub record Summary : Type 0 where
  pub counts : List ℕ
  pub enabled : List ℕ

abbrev pub summary : List ℕ → List ℕ → Summary
summary counts enabled = record { counts = counts; enabled = enabled }

-- two lists of the same words
unfoldable pub alike : List ℕ → List ℕ → Bool
alike [] [] = true
alike [] (y ∷ ys) = false
alike (x ∷ xs) [] = false
alike (x ∷ xs) (y ∷ ys) = same x y && alike xs ys

-- two summaries that have the same words
unfoldable pub same_summary : Summary → Summary → Bool
same_summary s t = alike s.counts t.counts && alike s.enabled t.enabled

-- "the number of unmarked inputs" (document 02, Item 5)
unfoldable pub unmarked : List ℕ → List ℕ → ℕ
unmarked marking inputs = length (keep (λ place. not (is_place_marked marking place)) inputs)

module _ (image : List ℕ) where
  -- the words of the set: a bit for each transition
  abbrev pub set_length : ℕ
  set_length = (transition_count image + 63) / 64

  -- enabled in the sense of cause 15; "spare bits 0"
  abbrev pub is_on : List ℕ → ℕ → Bool
  is_on marking transition = nat_lt transition (transition_count image) && is_enabled marking (inputs_at image transition)

  -- the marking's summary
  unfoldable pub summary_of : List ℕ → Summary
  summary_of marking =
      summary (map (λ t. unmarked marking (inputs_at image t)) (range (transition_count image))) (words_of (is_on marking) set_length)

  -- the transitions that the test names get count and bit from a marking; all else stays as it was, spare bits too
  unfoldable pub worked_out : (ℕ → Bool) → List ℕ → Summary → Summary
  worked_out test marking s =
      summary
      (map (λ u. pick (test u) (unmarked marking (inputs_at image u)) (word s.counts u)) (range (transition_count image)))
      (words_of (λ u. pick (nat_lt u (transition_count image) && test u) (is_enabled marking (inputs_at image u)) (is_in_set s.enabled u)) set_length)

  -- "transitions that share a place with the fired one" (document 02, Item 5): where inputs and outputs of both together meet
  unfoldable pub shares : ℕ → ℕ → Bool
  shares t u = some (λ place. member place (inputs_at image t ++ outputs_at image t)) (inputs_at image u ++ outputs_at image u)
