use mathlib.Core.Path.{◌≡◌}
use Rattle.places.specs.Inner.Plan.{row_of}
use Rattle.builder.proofs.Marked.{RowsTurn}
use Rattle.builder.proofs.marking.initial_rows.Given as goal

abbrev pub invariant-loop-x : goal.invariant-loop-x
invariant-loop-x l = RowsTurn l.table l.initial.out l.end l.out l.at l.x × (l.row ≡ row_of l.table l.x)
