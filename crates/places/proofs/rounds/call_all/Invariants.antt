use Rattle.lists.specs.Lists.{range, some}
use Rattle.places.specs.Inner.Sets.{Grown}
use Rattle.places.proofs.Passing.{at_node}
use Rattle.places.proofs.rounds.call_all.Given as goal

abbrev pub invariant-loop-n : goal.invariant-loop-n
invariant-loop-n l = Grown l.initial.words l.words l.grew (λ R x o. some (λ k. at_node l.table k R x o) (range l.n))
