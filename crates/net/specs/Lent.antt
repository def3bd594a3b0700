-- What is checked of an image and a marking before everything else.
use Rattle.std.specs.Prelude.{not, List, ℕ}
use Rattle.lists.specs.Lists.{pick}
use Rattle.net.specs.Image.{place_count_of, is_header_right}
use Rattle.net.specs.Firing.{is_marking}

-- 11, 13, or 0 where both are right
unfoldable pub lent_cause : List ℕ → List ℕ → ℕ
lent_cause image marking = pick (not (is_header_right image)) 11 (pick (not (is_marking (place_count_of image) marking)) 13 0)
