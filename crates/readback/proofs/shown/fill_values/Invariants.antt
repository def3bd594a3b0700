use mathlib.Core.Path.{◌≡◌}
use mathlib.Core.List.{map}
use lib.Seq.{slice}
use Rattle.lists.specs.Lists.{from}
use Rattle.process.specs.Inner.Values.{value_at}
use Rattle.readback.proofs.Showing.{shown_value}
use Rattle.readback.proofs.shown.fill_values.Given as goal

abbrev pub invariant-loop-i : goal.invariant-loop-i
invariant-loop-i l = (map value_at (slice 0 l.i l.list) ≡ map (shown_value l.table l.nodes l.indexes l.values) (from l.publics l.i))
