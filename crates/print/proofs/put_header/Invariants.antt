use mathlib.Core.Path.{◌≡◌}
use Prim.Native.Nat.{◌-◌}
use lib.ListN.{length}
use Rattle.lists.specs.Lists.{from, flat}
use Rattle.print.specs.Inner.Cursors.{cursor_at, write}
use Rattle.print.proofs.Lines.{word_text}
use Rattle.print.proofs.put_header.Given as goal

abbrev pub invariant-loop-i : goal.invariant-loop-i
invariant-loop-i l =
    (write (cursor_at l.initial.out l.initial.p) (flat (word_text l.image) (from 1 4)) ≡ write (cursor_at l.out l.p) (flat (word_text l.image) (from l.i (5 - l.i))))
    × (length l.out ≡ length l.initial.out)
