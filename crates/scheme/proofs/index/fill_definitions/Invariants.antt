use mathlib.Core.Path.{◌≡◌}
use mathlib.Core.List.{map}
use lib.ListN.{length}
use lib.Seq.{sets}
use Rattle.lists.specs.Lists.{range}
use Rattle.scheme.specs.Index.{definitions_offset}
use Rattle.scheme.proofs.Parts.{node_word}
use Rattle.scheme.proofs.index.fill_definitions.Given as goal

abbrev pub invariant-loop-n : goal.invariant-loop-n
invariant-loop-n l = (l.index ≡ sets l.initial.index definitions_offset (map (node_word l.table) (range l.n))) × (length l.index ≡ length l.initial.index)
