-- What is read so far is at most what fits. Measure: what is left to fill.
use Rattle.std.proofs.Common.{◌-◌, ◌≤◌}
use Rattle.vectors.proofs.line.read.Given as goal

abbrev pub invariant-loop-count : goal.invariant-loop-count
invariant-loop-count g l = l.count ≤ 1048576

abbrev pub decreases-loop-count : goal.decreases-loop-count
decreases-loop-count g l = 1048576 - l.count
