-- Headers, records and arcs, as the functions pass them on.
use Rattle.std.specs.Prelude.{true, ◌≡◌, List, ℕ, ◌^◌, ◌≤◌, ◌<◌, length}
use Rattle.net.specs.Image.{arcs_offset, given_length, inputs_start, outputs_start, outputs_end, inputs_at, outputs_at, record_right}

-- what a right header tells of the image's length
pub record Header (image : List ℕ) : Type 0 where
  pub long : 8 ≤ length image
  pub exact : length image ≡ given_length image

-- where the arcs start, and that the number is small
pub record Start (image : List ℕ) (r : ℕ) : Type 0 where
  pub is : r ≡ arcs_offset image
  pub small : r < 2 ^ 36

-- the offsets in a transition's record
pub record Offsets (image : List ℕ) (transition inputs outputs end : ℕ) : Type 0 where
  pub inputs_are : inputs ≡ inputs_start image transition
  pub outputs-are : outputs ≡ outputs_start image transition
  pub end_is : end ≡ outputs_end image transition

-- the arcs of a transition whose record is right
pub record ArcsOf (image : List ℕ) (transition : ℕ) (inputs outputs : List ℕ) : Type 0 where
  pub right : record_right image transition ≡ true
  pub inputs-are : inputs ≡ inputs_at image transition
  pub outputs-are : outputs ≡ outputs_at image transition
