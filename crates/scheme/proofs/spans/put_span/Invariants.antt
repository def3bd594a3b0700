use mathlib.Core.Path.{◌≡◌}
use Prim.Native.Nat.{◌-◌}
use lib.ListN.{length}
use Rattle.lists.specs.Lists.{from}
use Rattle.scheme.specs.Inner.Scatter.{put_all}
use Rattle.scheme.proofs.spans.put_span.Given as goal

abbrev pub invariant-loop-x : goal.invariant-loop-x
invariant-loop-x l = (put_all l.v (from l.first (l.end - l.first)) l.initial.out ≡ put_all l.v (from l.x (l.end - l.x)) l.out) × (length l.out ≡ length l.initial.out)
