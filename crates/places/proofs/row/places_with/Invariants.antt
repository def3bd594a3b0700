use Rattle.std.proofs.Common.{◌≡◌, ◌+◌, ◌-◌, ◌*◌, ◌≤◌, map}
use Rattle.lists.specs.Lists.{from, total}
use Rattle.places.specs.Starts.{places_in}
use Rattle.places.proofs.row.places_with.Given as goal

abbrev pub invariant-loop-x : goal.invariant-loop-x
invariant-loop-x l =
    (total (map (places_in l.publics l.index l.privates) (from l.initial.x (l.last - l.initial.x))) ≡ l.count + total (map (places_in l.publics l.index l.privates) (from l.x (l.last - l.x))))
    × (l.count ≤ l.x * 8589934654) × (l.publics ≤ l.x)
