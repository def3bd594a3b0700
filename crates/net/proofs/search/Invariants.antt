-- Scan: what the pass over the transitions has come to. Inner loop: what is left of the inputs tells what all of them do.
use Rattle.std.proofs.Common.{◌≡◌}
use lib.Seq.{slice}
use Rattle.net.specs.Firing.{is_enabled}
use Rattle.net.proofs.Passes.{Passed}
use Rattle.net.proofs.search.Given as goal

abbrev pub invariant-scan : goal.invariant-scan
invariant-scan l = Passed l.image l.marking l.settle l.kept l.transition × (l.met ≡ l.count)

abbrev pub invariant-loop-i : goal.invariant-loop-i
invariant-loop-i l = is_enabled l.marking (slice l.initial.i l.i-end l.image) ≡ is_enabled l.marking (slice l.i l.i-end l.image)
