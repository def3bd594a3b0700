-- The text of a listing (document 01, Table E and its listing), of any words: a word past the end of the image is 0, and of arcs that reach
-- past it those within are listed.
use Rattle.std.specs.Prelude.{List, [], ◌∷◌, ◌++◌, ℕ}
use Rattle.lists.specs.Lists.{range, flat}
use Rattle.net.specs.Image.{place_count_of, transition_count, input_arcs, output_arcs, initial_tokens, label_at, inputs_at, outputs_at}
use Rattle.print.specs.Text.{decimal, numbers, line}

-- "… prints the first five header words …" (document 01, Table E and its listing)
unfoldable pub header_line : List ℕ → List ℕ
header_line image =
    line (decimal (place_count_of image)) (numbers (transition_count image ∷ input_arcs image ∷ output_arcs image ∷ initial_tokens image ∷ []))

-- `:` stands before the inputs, `>` before the outputs
abbrev pub before_inputs : List ℕ
before_inputs = 58 ∷ []

abbrev pub before_outputs : List ℕ
before_outputs = 62 ∷ []

-- "… then per transition its number, label, inputs and outputs." (document 01, Table E and its listing)
-- Both marks stand also where there are no inputs or no outputs, and single spaces separate the tokens that are there: `3 0 1 2 : >`.
unfoldable pub transition_line : List ℕ → ℕ → List ℕ
transition_line image transition =
    let label = label_at image transition in
    line
    (decimal transition)
    (decimal label.kind ∷ decimal label.a ∷ decimal label.b
    ∷ before_inputs ∷ (numbers (inputs_at image transition) ++ (before_outputs ∷ numbers (outputs_at image transition))))

unfoldable pub listing : List ℕ → List ℕ
listing image = header_line image ++ flat (transition_line image) (range (transition_count image))
