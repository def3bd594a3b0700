use Rattle.places.proofs.Scanning.{Gathering}
use Rattle.places.proofs.rounds.gather.Given as goal

abbrev pub invariant-loop-x : goal.invariant-loop-x
invariant-loop-x l = Gathering l.words l.set l.all l.x-iterator.0
