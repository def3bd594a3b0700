-- Loop: no bit of the first i words is set.
use Rattle.summary.proofs.Counting.{NoneBelow}
use Rattle.summary.proofs.lowest.Given as goal

abbrev pub invariant-loop-i : goal.invariant-loop-i
invariant-loop-i l = NoneBelow l.enabled l.i
