use mathlib.Core.Path.{◌≡◌}
use Prim.Native.Nat.{◌*◌, ◌≤◌}
use lib.ListN.{length}
use Rattle.lists.specs.Lists.{range, keep}
use Rattle.scheme.specs.Words.{is_receive}
use Rattle.places.specs.Starts.{Right}
use Rattle.builder.specs.Inner.Parts.{StartsOf}
use Rattle.builder.proofs.communications.receive_rows.Given as goal

abbrev pub invariant-loop-b : goal.invariant-loop-b
invariant-loop-b l =
    (l.k ≡ 2 * length (keep (is_receive l.table) (range l.b))) × StartsOf l.table l.at (keep (is_receive l.table) (range l.b)) × (length l.at ≡ 64) × (l.k ≤ 2 * l.b)
    × Right l.table l.index l.a × Right l.table l.index l.z
