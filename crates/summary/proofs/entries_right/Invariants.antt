-- Loop: all counts and bits are right exactly if those from this transition on are.
use Rattle.std.proofs.Common.{◌≡◌, ◌-◌, ◌&&◌}
use Rattle.lists.specs.Lists.{from, every, range}
use Rattle.net.specs.Image.{transition_count}
use Rattle.summary.proofs.Entries.{right, spare}
use Rattle.summary.proofs.entries_right.Given as goal

abbrev pub invariant-loop-transition : goal.invariant-loop-transition
invariant-loop-transition l =
    (every (right l.image l.marking l.counts l.enabled) (range (transition_count l.image)) && spare l.image l.enabled)
    ≡ (every (right l.image l.marking l.counts l.enabled) (from l.transition (transition_count l.image - l.transition)) && spare l.image l.enabled)
