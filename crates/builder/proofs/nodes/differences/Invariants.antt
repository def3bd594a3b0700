use mathlib.Core.Path.{◌≡◌}
use lib.ListN.{length}
use Rattle.places.specs.Inner.Plan.{row_of}
use Rattle.builder.specs.Inner.Parts.{Filled}
use Rattle.builder.proofs.Making.{differs_below}
use Rattle.builder.proofs.nodes.differences.Given as goal

abbrev pub invariant-loop-x : goal.invariant-loop-x
invariant-loop-x l = Filled l.table l.list l.count (differs_below l.table l.v l.x) × (length l.list ≡ length l.initial.list) × (l.row ≡ row_of l.table l.x)
