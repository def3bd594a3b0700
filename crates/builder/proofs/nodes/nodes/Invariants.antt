use mathlib.Core.Path.{◌≡◌}
use Prim.Native.Nat.{◌-◌}
use lib.ListN.{length}
use Rattle.lists.specs.Lists.{from, range, flat}
use Rattle.scheme.specs.Words
use Rattle.builder.specs.Inner.Parts.{put}
use Rattle.builder.proofs.NodeArrows.{node_all}
use Rattle.builder.proofs.nodes.nodes.Given as goal

abbrev pub invariant-loop-n : goal.invariant-loop-n
invariant-loop-n l =
    (put l.table l.initial.out l.initial.q (flat (node_all l.table) (range (Words.nodes l.table))) ≡ put l.table l.out l.q (flat (node_all l.table) (from l.n (l.count - l.n))))
    × (length l.out ≡ length l.initial.out)
