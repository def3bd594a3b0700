use Rattle.scheme.specs.Scheme.{scheme}
use Rattle.places.specs.Inner.Holding.{HeldBelow}
use Rattle.places.proofs.privates.hold_all.Given as goal

abbrev pub invariant-loop-node : goal.invariant-loop-node
invariant-loop-node l = HeldBelow (scheme l.table) l.node l.held
