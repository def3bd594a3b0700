use mathlib.Core.Path.{◌≡◌}
use Prim.Native.Nat.{◌+◌}
use lib.ListN.{length}
use lib.Seq.{slice}
use Rattle.builder.specs.Inner.Writing.{writes, sums}
use Rattle.builder.proofs.write.rest.Given as goal

abbrev pub invariant-loop-i : goal.invariant-loop-i
invariant-loop-i l = (writes l.initial.out (l.at + l.first) (slice l.first l.count (sums l.t l.list l.masks)) ≡ writes l.out (l.at + l.i) (slice l.i l.count (sums l.t l.list l.masks))) × (length l.out ≡ length l.initial.out)
