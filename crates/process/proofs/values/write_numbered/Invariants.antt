use mathlib.Core.Path.{◌≡◌}
use Prim.Native.Nat.{◌≤◌}
use mathlib.Core.List.{[], map}
use lib.ListN.{length, take}
use lib.Seq.{sets}
use Rattle.process.specs.StateWords.{value_at, value_words}
use Rattle.process.proofs.Numbering.{values_left}
use Rattle.process.proofs.values.write_numbered.Given as goal

abbrev pub invariant-loop-i : goal.invariant-loop-i
invariant-loop-i l =
    (sets l.initial.out l.at (value_words l.publics [] (map value_at (take l.count l.values))) ≡ values_left l.values l.publics l.at l.count l.i l.noted l.out l.seen) ×
    ((length l.out ≡ length l.initial.out) × ((l.noted ≤ l.i) × (length l.seen ≡ 32)))
