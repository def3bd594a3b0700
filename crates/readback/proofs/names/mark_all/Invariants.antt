use mathlib.Core.Path.{◌≡◌}
use Prim.Native.Nat.{◌-◌}
use Rattle.lists.specs.Lists.{from, flat}
use Rattle.scheme.specs.Scheme.{scheme}
use Rattle.net.specs.Firing.{put}
use Rattle.readback.specs.Configurations.{held_here}
use Rattle.readback.specs.Inner.Showing.{spot_at}
use Rattle.readback.specs.Inner.Holding.{held_all}
use Rattle.readback.proofs.names.mark_all.Given as goal

abbrev pub invariant-loop-t : goal.invariant-loop-t
invariant-loop-t l =
    (put 1 l.initial.held (held_all l.table l.places l.indexes) ≡ put 1 l.held (flat (λ k. held_here (scheme l.table) (spot_at l.places l.indexes k)) (from l.t (l.threads - l.t))))
