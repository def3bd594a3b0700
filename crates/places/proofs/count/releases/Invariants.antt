use Rattle.std.proofs.Common.{◌≡◌, drop}
use Rattle.places.specs.Answers.{sums_of}
use Rattle.places.specs.Inner.Counting.{over, release_sums}
use Rattle.places.proofs.count.releases.Given as goal

abbrev pub invariant-loop-name : goal.invariant-loop-name
invariant-loop-name l = over (release_sums l.table) (sums_of l.initial.r) l.names ≡ over (release_sums l.table) (sums_of l.r) (drop l.name-index l.names)
