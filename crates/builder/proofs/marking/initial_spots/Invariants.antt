use Rattle.builder.proofs.Marked.{SpotsTurn}
use Rattle.builder.proofs.marking.initial_spots.Given as goal

abbrev pub invariant-loop-t : goal.invariant-loop-t
invariant-loop-t l = SpotsTurn l.table l.threads l.list l.count l.t
