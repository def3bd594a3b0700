use mathlib.Core.Path.{◌≡◌}
use lib.Seq.{slice}
use Rattle.net.specs.Firing.{put}
use Rattle.readback.proofs.names.mark_names.Given as goal

abbrev pub invariant-loop-i : goal.invariant-loop-i
invariant-loop-i l = (put 1 l.initial.held (slice l.first l.end l.names) ≡ put 1 l.held (slice l.i l.end l.names))
