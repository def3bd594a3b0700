-- Table E's image, computed: 106 words.
use mathlib.Core.Path.{◌≡◌, refl}
use mathlib.Core.List.{List, [], ◌∷◌}
use Prim.Native.Nat.{ℕ}
use Rattle.lists.specs.Lists.{same, from, every, some, keep, flat, member, first_from, positions_from, total}
use Rattle.scheme.specs.Words.{formals, branches_of, arguments_of}
use Rattle.scheme.specs.Owners.{home, owner, pick_owner, held_names_by, definition_by, held, definition}
use Rattle.scheme.specs.Scheme.{scheme, node_at, branch_at, arguments_from, pick_binder, binder_of}
use Rattle.net.specs.Net.{encode, records_from}
use Rattle.places.specs.Values.{values_of, private_values_of, shares}
use Rattle.places.specs.Held.{largest, held_counts, most_held, private_count}
use Rattle.places.specs.Reach.{overlaps, is_sent, passes, is_passed, comes, tabled, look, is_new, rounds, reach_table, values_for}
use Rattle.places.specs.Places.{controls, control_places, row, rows, places}
use Rattle.places.specs.Transitions.{is_input, is_output, releases, copies, descriptions}
use Rattle.places.specs.Image.{net_with, net_of, image_of}

abbrev table_e : List ℕ
table_e =
    1 ∷ 2 ∷ 2 ∷ 2 ∷ 5 ∷ 2 ∷ 0 ∷ 13 ∷ 15 ∷ 23 ∷ 25 ∷ 40 ∷ 48 ∷ 0 ∷ 1 ∷ 0 ∷ 0 ∷ 0 ∷ 0 ∷ 1 ∷ 3 ∷ 0 ∷ 0 ∷ 0 ∷ 1 ∷
    2 ∷ 1 ∷ 1 ∷ 1 ∷ 0 ∷ 1 ∷ 0 ∷ 0 ∷ 0 ∷ 1 ∷ 1 ∷ 1 ∷ 0 ∷ 0 ∷ 0 ∷ 1 ∷ 0 ∷ 1 ∷ 2 ∷ 2 ∷ 0 ∷ 2 ∷ 4 ∷ []

abbrev image_e : List ℕ
image_e =
    15 ∷ 8 ∷ 22 ∷ 22 ∷ 6 ∷ 8 ∷ 14 ∷ 62 ∷ 4 ∷ 5 ∷ 6 ∷ 7 ∷ 8 ∷ 12 ∷ 2 ∷ 0 ∷ 1 ∷ 62 ∷ 3 ∷ 3 ∷ 2 ∷ 0 ∷ 1 ∷ 68 ∷ 3 ∷ 3 ∷ 1 ∷ 2 ∷ 1 ∷ 74 ∷ 2 ∷ 2 ∷ 1 ∷ 2 ∷
    1 ∷ 78 ∷ 2 ∷ 2 ∷ 1 ∷ 4 ∷ 2 ∷ 82 ∷ 2 ∷ 2 ∷ 1 ∷ 4 ∷ 2 ∷ 86 ∷ 2 ∷ 2 ∷ 4 ∷ 0 ∷ 1 ∷ 90 ∷ 4 ∷ 4 ∷ 4 ∷ 0 ∷ 1 ∷ 98 ∷ 4 ∷ 4 ∷ 4 ∷ 6 ∷ 8 ∷ 0 ∷ 4 ∷ 9 ∷ 5 ∷
    7 ∷ 8 ∷ 1 ∷ 5 ∷ 9 ∷ 0 ∷ 10 ∷ 6 ∷ 11 ∷ 1 ∷ 10 ∷ 7 ∷ 11 ∷ 2 ∷ 13 ∷ 4 ∷ 14 ∷ 3 ∷ 13 ∷ 5 ∷ 14 ∷ 0 ∷ 4 ∷ 9 ∷ 12 ∷ 0 ∷ 2 ∷ 10 ∷ 13 ∷ 1 ∷ 5 ∷ 9 ∷ 12 ∷
    1 ∷ 3 ∷ 10 ∷ 13 ∷ []

built : image_of table_e ≡ image_e
unfolding same from every some keep flat member first_from positions_from total formals branches_of arguments_of home owner pick_owner held_names_by definition_by held
    definition scheme node_at branch_at arguments_from pick_binder binder_of encode records_from largest held_counts most_held private_count overlaps is_sent passes
    is_passed comes tabled look is_new rounds reach_table values_for shares values_of private_values_of controls control_places row rows
    places is_input is_output releases copies descriptions net_with net_of image_of
built = refl
