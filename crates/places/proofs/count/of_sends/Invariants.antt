use Rattle.std.proofs.Common.{◌≡◌, ◌-◌}
use Rattle.lists.specs.Lists.{from, range}
use Rattle.scheme.specs.Words.{branches}
use Rattle.places.specs.Answers.{sums_of}
use Rattle.places.specs.Inner.Counting.{over, send_sums}
use Rattle.places.proofs.count.of_sends.Given as goal

abbrev pub invariant-loop-s : goal.invariant-loop-s
invariant-loop-s l = over (send_sums l.table) (sums_of l.initial.q) (range (branches l.table)) ≡ over (send_sums l.table) (sums_of l.q) (from l.s (branches l.table - l.s))
