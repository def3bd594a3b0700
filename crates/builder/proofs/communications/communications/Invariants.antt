use mathlib.Core.Path.{◌≡◌}
use Prim.Native.Nat.{◌-◌}
use lib.ListN.{length}
use Rattle.lists.specs.Lists.{from, range, flat}
use Rattle.places.specs.Starts.{Right}
use Rattle.builder.specs.Inner.Parts.{put, with_all_of}
use Rattle.builder.proofs.communications.communications.Given as goal

abbrev pub invariant-loop-s : goal.invariant-loop-s
invariant-loop-s l =
    (put l.table l.initial.out l.initial.q (flat (with_all_of l.table) (range l.branches)) ≡ put l.table l.out l.q (flat (with_all_of l.table) (from l.s (l.branches - l.s))))
    × (length l.out ≡ length l.initial.out) × Right l.table l.index l.a × Right l.table l.index l.z
