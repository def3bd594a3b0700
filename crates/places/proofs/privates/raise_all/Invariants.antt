use Rattle.scheme.specs.Scheme.{scheme}
use Rattle.places.proofs.Holding.{Raised}
use Rattle.places.proofs.privates.raise_all.Given as goal

abbrev pub invariant-loop-n : goal.invariant-loop-n
invariant-loop-n l = Raised (scheme l.table) l.n l.most
