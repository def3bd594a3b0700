use Rattle.places.proofs.Filling.{Owned}
use Rattle.places.proofs.rounds.own.Given as goal

abbrev pub invariant-loop-x : goal.invariant-loop-x
invariant-loop-x l = Owned l.table l.x l.words
