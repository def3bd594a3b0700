use mathlib.Core.Path.{◌≡◌}
use lib.ListN.{length, drop}
use Rattle.print.specs.Inner.Cursors.{cursor_at, write}
use Rattle.print.proofs.copy.Given as goal

abbrev pub invariant-loop-byte : goal.invariant-loop-byte
invariant-loop-byte l = (write (cursor_at l.initial.out l.initial.p) l.text ≡ write (cursor_at l.out l.p) (drop l.byte-index l.text)) × (length l.out ≡ length l.initial.out)
