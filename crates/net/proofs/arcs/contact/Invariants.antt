-- Loop: inputs and outputs left ascend, and have a contact exactly if all have. Measure: arcs left.
use Rattle.std.proofs.Common.{◌≡◌, ◌+◌, ◌-◌, true, length, drop}
use Rattle.lists.specs.Lists.{ascends}
use Rattle.net.specs.Firing.{has_contact}
use Rattle.net.proofs.arcs.contact.Given as goal

abbrev pub invariant-loop-next_output : goal.invariant-loop-next_output
invariant-loop-next_output l =
    (ascends (length l.marking) 0 (drop l.next_input l.inputs) ≡ true)
    × (ascends (length l.marking) 0 (drop l.next_output l.outputs) ≡ true)
    × (has_contact l.marking l.inputs l.outputs ≡ has_contact l.marking (drop l.next_input l.inputs) (drop l.next_output l.outputs))

abbrev pub decreases-loop-next_output : goal.decreases-loop-next_output
decreases-loop-next_output l = (length l.inputs - l.next_input) + (length l.outputs - l.next_output)
