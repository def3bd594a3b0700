-- Loop: what is left tells what the whole list does.
use Rattle.std.proofs.Common.{◌≡◌, ◌≤◌, length, drop, ◌-◌}
use Rattle.summary.specs.Inner.Marks.{is_touched}
use Rattle.summary.proofs.touched.Given as goal

abbrev pub invariant-loop-i : goal.invariant-loop-i
invariant-loop-i l = (l.i ≤ length l.places) × (is_touched l.bytes l.places ≡ is_touched l.bytes (drop l.i l.places))

abbrev pub decreases-loop-i : goal.decreases-loop-i
decreases-loop-i l = length l.places - l.i
