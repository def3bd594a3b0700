-- Loop: the numbers left, fired from the marking as it is now, give the outcome of all, with the i made before counted.
use mathlib.Core.Path.{◌≡◌}
use lib.ListN.{drop}
use Rattle.net.specs.Firing.{after, in_turn}
use Rattle.net.proofs.fire_all.Given as goal

abbrev pub invariant-loop-i : goal.invariant-loop-i
invariant-loop-i l = (in_turn l.image l.initial.marking l.numbers ≡ after l.i (in_turn l.image l.marking (drop l.i l.numbers)))
