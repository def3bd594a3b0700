-- Measure: what is left of the input.
use Rattle.std.proofs.Common.{length}
use Rattle.vectors.proofs.answer_lines.Given as goal

abbrev pub decreases-loop-end : goal.decreases-loop-end
decreases-loop-end t l = length l.rest
