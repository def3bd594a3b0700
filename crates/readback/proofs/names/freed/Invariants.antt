use Rattle.readback.proofs.Freeing.{Counting}
use Rattle.readback.proofs.names.freed.Given as goal

abbrev pub invariant-loop-x : goal.invariant-loop-x
invariant-loop-x l = Counting l.table l.marking l.set l.x l.end
