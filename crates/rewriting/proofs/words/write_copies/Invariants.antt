use Prim.Native.Nat.{◌+◌, ◌*◌, ◌≤◌}
use lib.ListN.{drop}
use Rattle.lists.specs.Lists.{flat}
use Rattle.process.proofs.Listed.{Left}
use Rattle.rewriting.specs.Inner.Writing.{copy_words}
use Rattle.rewriting.proofs.words.write_copies.Given as goal

abbrev pub invariant-loop-i : goal.invariant-loop-i
invariant-loop-i l =
    Left (flat (copy_words l.table l.part) l.originals) l.initial.out l.at (flat (copy_words l.table l.part) (drop l.i-index l.originals)) l.out l.next ×
    (l.next ≤ l.at + 4 * l.i-index)
