use mathlib.Core.Path.{◌≡◌}
use lib.ListN.{length}
use Rattle.lists.specs.Lists.{flat}
use Rattle.builder.specs.Inner.Spans.{values_in}
use Rattle.builder.specs.Inner.Parts.{put}
use Rattle.builder.proofs.PairLoops.{Left, each_told}
use Rattle.builder.proofs.communications.pair_up.Given as goal

abbrev pub invariant-loop-p : goal.invariant-loop-p
invariant-loop-p l =
    (put l.table l.initial.out l.initial.q (flat (each_told l.table l.p l.c l.inner) (values_in l.initial.left)) ≡ put l.table l.out l.q (flat (each_told l.table l.p l.c l.inner) (values_in l.left)))
    × Left l.initial.left l.left × (length l.out ≡ length l.initial.out)

abbrev pub decreases-loop-p : goal.decreases-loop-p
decreases-loop-p l = length (values_in l.left)
