use Rattle.std.proofs.Common.{◌≡◌, ◌-◌, map}
use Rattle.lists.specs.Lists.{from}
use Rattle.scheme.specs.Words.{argument}
use Rattle.places.specs.Answers.{sums_of}
use Rattle.places.specs.Inner.Counting.{over, copy_sums}
use Rattle.places.proofs.count.copies.Given as goal

abbrev pub invariant-loop-i : goal.invariant-loop-i
invariant-loop-i l =
    over (copy_sums l.table) (sums_of l.initial.r) (map (argument l.table) (from l.first (l.end - l.first)))
    ≡ over (copy_sums l.table) (sums_of l.r) (map (argument l.table) (from l.i (l.end - l.i)))
