use mathlib.Core.Path.{◌≡◌}
use Prim.Native.Nat.{◌+◌, ◌-◌, ◌≤◌}
use lib.ListN.{length, take}
use lib.Seq.{slice}
use Rattle.builder.specs.Inner.Writing.{writes, sums}
use Rattle.builder.proofs.write.raised.Given as goal

abbrev pub invariant-loop-i : goal.invariant-loop-i
invariant-loop-i l = (writes l.initial.out l.at (take l.count (sums l.t l.list l.masks)) ≡ writes l.out (l.at + l.i) (slice l.i l.count (sums l.t l.list l.masks))) × (length l.out ≡ length l.initial.out) × (l.i ≤ l.count)

abbrev pub decreases-loop-i : goal.decreases-loop-i
decreases-loop-i l = l.count - l.i
