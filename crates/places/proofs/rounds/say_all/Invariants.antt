use Rattle.lists.specs.Lists.{range, some}
use Rattle.scheme.specs.Scheme.{scheme}
use Rattle.places.specs.Inner.Sets.{Grown, said_at}
use Rattle.places.proofs.rounds.say_all.Given as goal

abbrev pub invariant-loop-s : goal.invariant-loop-s
invariant-loop-s l = Grown l.initial.words l.words l.grew (λ R x o. some (λ s. said_at (scheme l.table) l.ears R x o s ((scheme l.table).branch s)) (range l.s))
