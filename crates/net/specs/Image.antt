-- A net image, a list of 32-bit words (document 01, Net image and firing). Every definition means something on any list:
-- a word past the end is 0.
use Rattle.std.specs.Prelude.{Bool, ◌&&◌, List, ℕ, ◌+◌, ◌*◌, leb, length}
use Rattle.std.proofs.Math.Seq.{slice}
use Rattle.lists.specs.Lists.{same, word, range, every, ascends}

-- "Header: places, transitions, input arcs, output arcs, initial tokens m, …" (document 01, Net image and firing)
abbrev pub place_count_of : List ℕ → ℕ
place_count_of image = word image 0

abbrev pub transition_count : List ℕ → ℕ
transition_count image = word image 1

abbrev pub input_arcs : List ℕ → ℕ
input_arcs image = word image 2

abbrev pub output_arcs : List ℕ → ℕ
output_arcs image = word image 3

abbrev pub initial_tokens : List ℕ → ℕ
initial_tokens image = word image 4

-- "… then offsets 8, 8+m and 8+m+6t, t the transition count." (document 01, Net image and firing)
abbrev pub records_start : List ℕ → ℕ
records_start image = 8 + initial_tokens image

abbrev pub arcs_offset : List ℕ → ℕ
arcs_offset image = records_start image + 6 * transition_count image

-- "the length is exact." (document 01, Net image and firing)
abbrev pub given_length : List ℕ → ℕ
given_length image = arcs_offset image + input_arcs image + output_arcs image

abbrev pub initial_places : List ℕ → List ℕ
initial_places image = slice 8 (records_start image) image

-- "Initial places ascend strictly and lie below the place count." (document 01, Net image and firing)
-- "net header, length or initial list wrong | 11" where this fails (document 01, Causes of refusal)
unfoldable pub is_header_right : List ℕ → Bool
is_header_right image =
    leb 8 (length image)
    && (same (word image 5) 8
    && (same (word image 6) (records_start image)
    && (same (word image 7) (arcs_offset image)
    && (same (length image) (given_length image)
    && ascends (place_count_of image) 0 (initial_places image)))))

-- "A transition has 6 words: label (3), arc start (an offset in the image; …), input and output counts."
-- (document 01, Net image and firing)
abbrev pub record_offset : List ℕ → ℕ → ℕ
record_offset image transition = records_start image + 6 * transition

-- "Labels (kind, a, b)" (document 01, Transitions)
pub record Label : Type 0 where
  pub kind : ℕ
  pub a : ℕ
  pub b : ℕ

abbrev pub label_of : ℕ → ℕ → ℕ → Label
label_of kind a b = record { kind = kind; a = a; b = b }

-- "Kinds 0 and 1 are bookkeeping." (document 01, Transitions)
abbrev pub is_bookkeeping : ℕ → Bool
is_bookkeeping kind = leb kind 1

abbrev pub label_at : List ℕ → ℕ → Label
label_at image transition =
    let start = record_offset image transition in
    label_of (word image start) (word image (start + 1)) (word image (start + 2))

-- "Inputs then outputs, each ascending" (document 01, Net image and firing): where the inputs start, where the outputs do, where they end
abbrev pub inputs_start : List ℕ → ℕ → ℕ
inputs_start image transition = word image (record_offset image transition + 3)

abbrev pub outputs_start : List ℕ → ℕ → ℕ
outputs_start image transition = inputs_start image transition + word image (record_offset image transition + 4)

abbrev pub outputs_end : List ℕ → ℕ → ℕ
outputs_end image transition = outputs_start image transition + word image (record_offset image transition + 5)

abbrev pub inputs_at : List ℕ → ℕ → List ℕ
inputs_at image transition = slice (inputs_start image transition) (outputs_start image transition) image

abbrev pub outputs_at : List ℕ → ℕ → List ℕ
outputs_at image transition = slice (outputs_start image transition) (outputs_end image transition) image

-- "A foreign record's arcs need only lie in the arc section, ascend strictly and name places." (document 01, Net image and firing)
-- "record or arcs of the transition wrong | 12" where this fails (document 01, Causes of refusal)
unfoldable pub record_right : List ℕ → ℕ → Bool
record_right image transition =
    leb (arcs_offset image) (inputs_start image transition)
    && (leb (outputs_end image transition) (length image)
    && (ascends (place_count_of image) 0 (inputs_at image transition)
    && ascends (place_count_of image) 0 (outputs_at image transition)))

-- "check every record for 12" (document 02, Item 5)
unfoldable pub are_records_right : List ℕ → Bool
are_records_right image = every (record_right image) (range (transition_count image))
