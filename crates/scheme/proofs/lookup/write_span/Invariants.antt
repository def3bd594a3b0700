use mathlib.Core.Path.{◌≡◌}
use Prim.Native.Nat.{◌+◌, ◌-◌}
use lib.ListN.{length}
use lib.Seq.{sets}
use Rattle.lists.specs.Lists.{from}
use Rattle.scheme.proofs.lookup.write_span.Given as goal

abbrev pub invariant-loop-i : goal.invariant-loop-i
invariant-loop-i l = (sets l.initial.out 0 (from l.first l.count) ≡ sets l.out l.i (from (l.first + l.i) (l.count - l.i))) × (length l.out ≡ length l.initial.out)
