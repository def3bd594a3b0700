use Rattle.std.proofs.Common.{◌≡◌, map}
use lib.Seq.{sets}
use Rattle.lists.specs.Lists.{range}
use Rattle.places.specs.Sides.{partner_set}
use Rattle.places.proofs.pairs.fill_pairs.Given as goal

abbrev pub invariant-loop-b : goal.invariant-loop-b
invariant-loop-b l = l.pairs ≡ sets l.initial.pairs 256 (map (partner_set l.table l.index) (range l.b))
