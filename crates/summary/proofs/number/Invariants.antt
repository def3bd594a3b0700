-- Loop: the ones of the words so far are counted.
use Rattle.std.proofs.Common.{◌≡◌, ◌%◌, ◌^◌}
use Rattle.summary.proofs.Counting.{counted}
use Rattle.summary.proofs.number.Given as goal

abbrev pub invariant-loop-word : goal.invariant-loop-word
invariant-loop-word l = l.total ≡ counted l.enabled l.word-index % 2 ^ 64
