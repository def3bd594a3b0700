-- The parts of a text that functions of their own write, and where the record of a transition starts.
use Rattle.std.specs.Prelude.{◌≡◌, List, [], ◌∷◌, ◌++◌, ℕ, ◌<◌}
use Rattle.lists.specs.Lists.{pick, same, flat}
use Rattle.table.specs.Causes.{cause}
use Rattle.net.specs.Image.{record_offset, label_at, inputs_at, outputs_at}
use Rattle.places.specs.Image.{image_of}
use Rattle.print.specs.Text.{numbers, spaced, refusal}
use Rattle.print.specs.Listing.{before_inputs, before_outputs}
use Rattle.print.specs.Program.{image_text}

-- r is where the record starts, and small enough to count on from there
pub record RecordAt (image : List ℕ) (transition r : ℕ) : Type 0 where
  pub is : r ≡ record_offset image transition
  pub small : r < 42949672960

unfoldable pub label_text : List ℕ → ℕ → List ℕ
label_text image transition =
    let label = label_at image transition in
    flat spaced (numbers (label.kind ∷ label.a ∷ label.b ∷ []))

unfoldable pub arcs_text : List ℕ → ℕ → List ℕ
arcs_text image transition =
    flat spaced (before_inputs ∷ (numbers (inputs_at image transition) ++ (before_outputs ∷ numbers (outputs_at image transition))))

-- the net of a table's words as they stand, or the table's cause
unfoldable pub net_text : List ℕ → List ℕ
net_text w = pick (same (cause w) 0) (image_text (image_of w)) (refusal (cause w))
