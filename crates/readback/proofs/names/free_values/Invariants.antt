use Rattle.readback.specs.Inner.Freeing.{MarkedSet}
use Rattle.readback.proofs.names.free_values.Given as goal

abbrev pub invariant-loop-n : goal.invariant-loop-n
invariant-loop-n l = MarkedSet l.marking l.start l.n l.set
