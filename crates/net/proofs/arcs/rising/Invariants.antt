-- Loop: the words ascend exactly if they did so far, and what follows the word at i goes on from there.
use Rattle.std.proofs.Common.{◌≡◌, ◌&&◌}
use Rattle.lists.specs.Lists.{ascends}
use Rattle.net.proofs.Marks.{rises_on}
use Rattle.net.proofs.arcs.rising.Given as goal

abbrev pub invariant-loop-i : goal.invariant-loop-i
invariant-loop-i l = ascends l.places 0 l.words ≡ (l.right && rises_on l.words l.places l.i)
