use mathlib.Core.Path.{◌≡◌}
use Prim.Native.Nat.{◌+◌}
use lib.ListN.{length, take, drop}
use Rattle.scheme.specs.Scheme.{scheme}
use Rattle.places.specs.Starts.{Right}
use Rattle.places.specs.Transitions.{releases}
use Rattle.places.specs.Inner.Plan.{today}
use Rattle.builder.specs.Inner.Parts.{put}
use Rattle.builder.proofs.chain.release_all.Given as goal

abbrev pub invariant-loop-i : goal.invariant-loop-i
invariant-loop-i l =
    (put l.table l.initial.out l.initial.q (releases (scheme l.table) (today l.table) l.c.node l.c.to l.k (take l.count l.names))
    ≡ put l.table l.out l.q (releases (scheme l.table) (today l.table) l.c.node l.c.to (l.k + l.i) (drop l.i (take l.count l.names))))
    × (length l.out ≡ length l.initial.out) × Right l.table l.index l.s
