-- Loop: no byte is above 1 exactly if the highest so far is not, and none of those left is.
use Rattle.std.proofs.Common.{◌≡◌, leb}
use Rattle.lists.specs.Lists.{every}
use Rattle.net.proofs.Marks.{low_from}
use Rattle.net.proofs.marking_right.Given as goal

abbrev pub invariant-loop-byte : goal.invariant-loop-byte
invariant-loop-byte l = every (λ byte. leb byte 1) l.marking ≡ low_from l.highest l.marking l.byte-index
