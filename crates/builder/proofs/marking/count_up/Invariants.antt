use mathlib.Core.Path.{◌≡◌}
use Prim.Native.Nat.{◌+◌, ◌-◌}
use lib.ListN.{length}
use Rattle.lists.specs.Lists.{from}
use Rattle.builder.specs.Inner.Writing.{writes}
use Rattle.builder.proofs.marking.count_up.Given as goal

abbrev pub invariant-loop-i : goal.invariant-loop-i
invariant-loop-i l = (writes l.initial.out l.at (from l.first l.count) ≡ writes l.out (l.at + l.i) (from (l.first + l.i) (l.count - l.i))) × (length l.out ≡ length l.initial.out)
