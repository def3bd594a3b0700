use mathlib.Core.Path.{◌≡◌}
use mathlib.Core.List.{map}
use lib.ListN.{length}
use Rattle.builder.specs.Inner.Spans.{values_in}
use Rattle.builder.specs.Inner.Parts.{put, told_by}
use Rattle.builder.proofs.PairLoops.{Left}
use Rattle.builder.proofs.communications.values_told.Given as goal

abbrev pub invariant-loop-p : goal.invariant-loop-p
invariant-loop-p l =
    (put l.table l.initial.out l.initial.q (map (told_by l.table l.p l.way) (values_in l.initial.left)) ≡ put l.table l.out l.q (map (told_by l.table l.p l.way) (values_in l.left)))
    × Left l.initial.left l.left × (length l.out ≡ length l.initial.out)

abbrev pub decreases-loop-p : goal.decreases-loop-p
decreases-loop-p l = length (values_in l.left)
