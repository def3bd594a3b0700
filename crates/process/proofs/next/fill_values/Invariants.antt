use mathlib.Core.Path.{◌≡◌}
use mathlib.Core.List.{map}
use lib.Seq.{slice}
use Rattle.lists.specs.Lists.{from}
use Rattle.scheme.specs.Scheme.{scheme}
use Rattle.process.specs.Steps.{take}
use Rattle.process.specs.StateWords.{state_of}
use Rattle.process.specs.Inner.Codes.{meant}
use Rattle.process.specs.Inner.Values.{value_at}
use Rattle.process.proofs.next.fill_values.Given as goal

abbrev pub invariant-loop-i : goal.invariant-loop-i
invariant-loop-i l =
    map value_at (slice 0 l.i l.values) ≡ map (take (scheme l.known.table.now) (meant l.step) (state_of (scheme l.known.table.now) l.state)).value (from l.publics l.i)
