use Rattle.scheme.specs.Scheme.{scheme}
use Rattle.places.specs.Inner.Sets.{Adds}
use Rattle.places.proofs.Settled.{heard_to}
use Rattle.places.proofs.rounds.listen_all.Given as goal

abbrev pub invariant-loop-r : goal.invariant-loop-r
invariant-loop-r l = Adds l.initial.ears l.ears (heard_to (scheme l.table) l.words l.r)
