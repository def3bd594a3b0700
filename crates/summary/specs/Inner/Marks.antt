-- Summaries as the private functions work them out. While a firing's transitions are worked out, its places are told from the others in the marking: their
-- bytes are 2 and 3 where the others' are 0 and 1, so a byte tells a token if it is odd.
use Rattle.std.specs.Prelude.{◌≡◌, ℕ, ◌%◌, Bool, true, not, ◌&&◌, ◌||◌, List, map, length, nat_le, nat_lt, slice_set}
use Rattle.lists.specs.Lists.{pick, same, word, range, some, keep}
use Rattle.net.specs.Image.{place_count_of, transition_count, is_header_right, are_records_right, inputs_at, outputs_at}
use Rattle.net.specs.Firing.{is_place_marked, put}
use Rattle.summary.specs.Sets.{is_in_set, words_of, with_bit_set}
use Rattle.summary.specs.Summary.{Summary, summary, set_length}

-- the places of a list without a token
unfoldable pub missing_in : List ℕ → List ℕ → ℕ
missing_in bytes places = length (keep (λ place. not (same (word bytes place % 2) 1)) places)

-- some place of a list is the firing's
unfoldable pub is_touched : List ℕ → List ℕ → Bool
is_touched bytes places = some (λ place. nat_le 2 (word bytes place)) places

-- some place of a list has the byte of a token
unfoldable pub is_any_marked : List ℕ → List ℕ → Bool
is_any_marked bytes places = some (is_place_marked bytes) places

-- a transition to be worked out: all are, or it has a place of the firing's
unfoldable pub is_worked_afresh : List ℕ → List ℕ → Bool → ℕ → Bool
is_worked_afresh image bytes all u = all || (is_touched bytes (inputs_at image u) || is_touched bytes (outputs_at image u))

-- a marking with the places of a firing told from the others
abbrev pub painted : List ℕ → List ℕ → List ℕ → List ℕ
painted marking inputs outputs = put 3 (put 2 marking inputs) outputs

-- a summary in which one transition has a count, and is in the set where that is 0
abbrev pub put_entry : ℕ → ℕ → Summary → Summary
put_entry u count s = summary (slice_set s.counts u count) (with_bit_set s.enabled u (same count 0))

-- a summary in which the transitions that the test names have such a count
unfoldable pub refreshed : ℕ → (ℕ → Bool) → (ℕ → ℕ) → Summary → Summary
refreshed transitions test count s =
    summary (map (λ u. pick (test u) (count u) (word s.counts u)) (range transitions))
    (words_of (λ u. pick (nat_lt u transitions && test u) (same (count u) 0) (is_in_set s.enabled u)) (length s.enabled))

-- a count and a bit that tell how many places are without a token
abbrev pub is_entry_right : ℕ → ℕ → Bool → Bool
is_entry_right missing count on = same count missing && pick on (same missing 0) (not (same missing 0))

-- an image that is right in every record, and a byte for each place
pub record Sound (image bytes : List ℕ) : Type 0 where
  pub header : is_header_right image ≡ true
  pub records : are_records_right image ≡ true
  pub places : length bytes ≡ place_count_of image

-- a count for each transition, and a bit
pub record Fits (image counts enabled : List ℕ) : Type 0 where
  pub counted : length counts ≡ transition_count image
  pub words : length enabled ≡ set_length image
