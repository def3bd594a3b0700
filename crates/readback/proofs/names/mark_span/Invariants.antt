use mathlib.Core.Path.{◌≡◌}
use Prim.Native.Nat.{◌+◌, ◌-◌}
use Rattle.lists.specs.Lists.{from}
use Rattle.net.specs.Firing.{put}
use Rattle.readback.proofs.names.mark_span.Given as goal

abbrev pub invariant-loop-i : goal.invariant-loop-i
invariant-loop-i l = (put 1 l.initial.held (from l.first l.count) ≡ put 1 l.held (from (l.first + l.i) (l.count - l.i)))
