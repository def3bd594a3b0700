-- Sets in which the lowest is found, and counted in.
use Rattle.std.proofs.Common.{◌≡◌, [], ◌∷◌, refl}
use mathlib.Core.Option.{none, some}
use Rattle.lists.specs.Lists.{same, keep, from, first_from}
use Rattle.summary.specs.Sets.{has_bit, is_in_set, lowest_in, number_in}

found : lowest_in (0 ∷ 6 ∷ []) ≡ some 65
unfolding lowest_in is_in_set has_bit first_from same
found = refl

nothing : lowest_in (0 ∷ []) ≡ none
unfolding lowest_in is_in_set has_bit first_from same
nothing = refl

number : number_in (6 ∷ 1 ∷ []) ≡ 3
unfolding number_in is_in_set has_bit keep from same
number = refl
