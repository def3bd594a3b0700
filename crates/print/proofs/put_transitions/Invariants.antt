use mathlib.Core.Path.{◌≡◌}
use Prim.Native.Nat.{◌-◌}
use lib.ListN.{length}
use Rattle.lists.specs.Lists.{from, range, flat}
use Rattle.print.specs.Listing.{transition_line}
use Rattle.print.specs.Inner.Cursors.{cursor_at, write}
use Rattle.print.proofs.put_transitions.Given as goal

abbrev pub invariant-loop-transition : goal.invariant-loop-transition
invariant-loop-transition l =
    (write (cursor_at l.initial.out l.initial.p) (flat (transition_line l.image) (range l.count))
    ≡ write (cursor_at l.out l.p) (flat (transition_line l.image) (from l.transition (l.count - l.transition))))
    × (length l.out ≡ length l.initial.out)
