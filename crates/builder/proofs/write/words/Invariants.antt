use mathlib.Core.Path.{◌≡◌}
use Prim.Native.Nat.{◌+◌}
use lib.ListN.{length, take}
use lib.Seq.{slice}
use Rattle.builder.specs.Inner.Writing.{writes}
use Rattle.builder.proofs.write.words.Given as goal

abbrev pub invariant-loop-i : goal.invariant-loop-i
invariant-loop-i l = (writes l.initial.out l.at (take l.count l.list) ≡ writes l.out (l.at + l.i) (slice l.i l.count l.list)) × (length l.out ≡ length l.initial.out)
