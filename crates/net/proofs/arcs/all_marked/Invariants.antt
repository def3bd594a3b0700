-- Loop: what is left tells what the whole list does.
use Rattle.std.proofs.Common.{◌≡◌, drop}
use Rattle.net.specs.Firing.{is_enabled}
use Rattle.net.proofs.arcs.all_marked.Given as goal

abbrev pub invariant-loop-place : goal.invariant-loop-place
invariant-loop-place l = is_enabled l.marking l.places ≡ is_enabled l.marking (drop l.place-index l.places)
