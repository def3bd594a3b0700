use Rattle.places.specs.Inner.Sets.{Grown}
use Rattle.places.proofs.Passing.{passing}
use Rattle.places.proofs.rounds.pass.Given as goal

abbrev pub invariant-loop-j : goal.invariant-loop-j
invariant-loop-j l = Grown l.initial.words l.words l.grew (passing l.table l.formal l.argument l.j)
