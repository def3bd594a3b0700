use Rattle.readback.specs.Inner.Noting.{NotedAll}
use Rattle.readback.proofs.spots.note_all.Given as goal

abbrev pub invariant-loop-n : goal.invariant-loop-n
invariant-loop-n l =
    NotedAll l.table l.marking l.n l.counts l.places l.indexes
