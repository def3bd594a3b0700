use mathlib.Core.Path.{◌≡◌}
use lib.ListN.{length}
use lib.Seq.{slice}
use Rattle.lists.specs.Lists.{flat}
use Rattle.print.specs.Text.{numbers, spaced}
use Rattle.print.specs.Inner.Cursors.{cursor_at, write}
use Rattle.print.proofs.put_span.Given as goal

abbrev pub invariant-loop-i : goal.invariant-loop-i
invariant-loop-i l =
    (write (cursor_at l.initial.out l.initial.p) (flat spaced (numbers (slice l.start l.end l.image))) ≡ write (cursor_at l.out l.p) (flat spaced (numbers (slice l.i l.last l.image))))
    × (length l.out ≡ length l.initial.out)
