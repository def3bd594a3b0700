use Rattle.readback.specs.Inner.Hits.{hits, FoundOf}
use Rattle.readback.proofs.found.find.Given as goal

abbrev pub invariant-loop-i : goal.invariant-loop-i
invariant-loop-i l = FoundOf (hits l.marking l.start l.i) l.found
