-- Loop: all records are right exactly if those from this one on are.
use mathlib.Core.Path.{◌≡◌}
use Prim.Native.Nat.{◌-◌}
use Rattle.lists.specs.Lists.{every, from}
use Rattle.net.specs.Image.{record_right, are_records_right, transition_count}
use Rattle.net.proofs.records_right.Given as goal

abbrev pub invariant-loop-transition : goal.invariant-loop-transition
invariant-loop-transition l = are_records_right l.image ≡ every (record_right l.image) (from l.transition (transition_count l.image - l.transition))
