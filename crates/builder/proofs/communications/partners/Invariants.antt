use mathlib.Core.Path.{◌≡◌}
use lib.ListN.{length}
use Rattle.places.proofs.Scanning.{Left}
use Rattle.builder.specs.Inner.Parts.{put, with_all_of}
use Rattle.builder.proofs.Partners.{with_set}
use Rattle.builder.proofs.communications.partners.Given as goal

abbrev pub invariant-loop-left : goal.invariant-loop-left
invariant-loop-left l =
    (put l.table l.initial.out l.initial.q (with_all_of l.table l.s.side.branch) ≡ put l.table l.out l.q (with_set l.table l.s.side.branch l.left)) × Left l.s.set l.left
    × (length l.out ≡ length l.initial.out)

abbrev pub decreases-loop-left : goal.decreases-loop-left
decreases-loop-left l = l.left
