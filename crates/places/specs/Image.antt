-- The net of a scheme and its image.
use Rattle.std.specs.Prelude.{ℕ, List, map, length}
use Rattle.lists.specs.Lists.{positions}
use Rattle.scheme.specs.Scheme.{Scheme, scheme}
use Rattle.net.specs.Net.{Net, Transition, encode}
use Rattle.places.specs.Values.{Values}
use Rattle.places.specs.Reach.{values_for}
use Rattle.places.specs.Places.{places, is_initial}
use Rattle.places.specs.Transitions.{Description, is_input, is_output, descriptions}

module _ (S : Scheme) (U : Values) where
  -- inputs and outputs are the numbers of the places, ascending
  abbrev pub transition_of : Description → Transition
  transition_of d = record { label = d.label; inputs = positions (is_input S d) (places S U); outputs = positions (is_output S d) (places S U) }

  unfoldable pub net_with : Net
  net_with = record { places = length (places S U); initial = positions (is_initial S U) (places S U); transitions = map transition_of (descriptions S U) }

unfoldable pub net_of : Scheme → Net
net_of S = net_with S (values_for S)

-- the image of a table's words
unfoldable pub image_of : List ℕ → List ℕ
image_of w = encode (net_of (scheme w))
