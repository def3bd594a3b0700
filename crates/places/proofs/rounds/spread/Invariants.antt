use Rattle.places.proofs.Scanning.{Spreading}
use Rattle.places.proofs.rounds.spread.Given as goal

abbrev pub invariant-loop-x : goal.invariant-loop-x
invariant-loop-x l = Spreading l.set l.a l.initial.words l.words l.grew l.x-iterator.0
