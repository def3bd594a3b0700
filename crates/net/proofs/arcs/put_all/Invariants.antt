-- Loop: what is left is written to the marking as it is now.
use Rattle.std.proofs.Common.{◌≡◌, length, drop}
use Rattle.net.specs.Firing.{put}
use Rattle.net.proofs.arcs.put_all.Given as goal

abbrev pub invariant-loop-place : goal.invariant-loop-place
invariant-loop-place l = (length l.marking ≡ length l.initial.marking)
    × (put l.byte l.initial.marking l.places ≡ put l.byte l.marking (drop l.place-index l.places))
