use Rattle.std.proofs.Common.{◌≡◌, ◌≤◌, length}
use lib.Seq.{sets}
use Rattle.lists.specs.Lists.{range, flat, keep}
use Rattle.scheme.specs.Words.{is_receive}
use Rattle.places.specs.Sides.{receive_words}
use Rattle.places.proofs.count.receives.Given as goal

abbrev pub invariant-loop-b : goal.invariant-loop-b
invariant-loop-b l =
    (l.count ≡ length (keep (is_receive l.table) (range l.b))) × (l.list ≡ sets l.initial.list 0 (flat (receive_words l.table l.index) (keep (is_receive l.table) (range l.b))))
    × (l.count ≤ l.b)
