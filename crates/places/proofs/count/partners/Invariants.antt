use Rattle.std.proofs.Common.{◌≡◌}
use Rattle.places.specs.Answers.{sums_of}
use Rattle.places.specs.Inner.Counting.{set_sums}
use Rattle.places.proofs.Scanning.{Left}
use Rattle.places.proofs.count.partners.Given as goal

abbrev pub invariant-loop-k : goal.invariant-loop-k
invariant-loop-k l = (set_sums l.table l.send (sums_of l.initial.q) l.set ≡ set_sums l.table l.send (sums_of l.q) l.k-iterator.0) × Left l.set l.k-iterator.0
