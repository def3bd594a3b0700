use Rattle.std.proofs.Common.{◌≡◌, ◌-◌}
use Rattle.lists.specs.Lists.{from}
use Rattle.places.specs.Answers.{sums_of}
use Rattle.places.specs.Inner.Counting.{over, silent_sums}
use Rattle.places.proofs.count.silents.Given as goal

abbrev pub invariant-loop-b : goal.invariant-loop-b
invariant-loop-b l = over (silent_sums l.table) (sums_of l.initial.r) (from l.first (l.end - l.first)) ≡ over (silent_sums l.table) (sums_of l.r) (from l.b (l.end - l.b))
