use mathlib.Core.Path.{◌≡◌}
use Prim.Native.Nat.{◌-◌}
use lib.ListN.{length}
use Rattle.lists.specs.Lists.{from, range}
use Rattle.builder.specs.Inner.Writing.{heads, put_all}
use Rattle.builder.specs.Inner.Parts.{risen}
use Rattle.builder.proofs.write.series.Given as goal

abbrev pub invariant-loop-t : goal.invariant-loop-t
invariant-loop-t l =
    (put_all (risen l.label.kind l.label.a l.label.b l.arcs l.fn.rise) (heads l.initial.out l.initial.place l.initial.arc) (range l.count)
    ≡ put_all (risen l.label.kind l.label.a l.label.b l.arcs l.fn.rise) (heads l.out l.place l.arc) (from l.t (l.count - l.t)))
    × (length l.out ≡ length l.initial.out)
