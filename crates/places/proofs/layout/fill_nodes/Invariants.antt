use Rattle.std.proofs.Common.{◌≡◌, map}
use lib.Seq.{sets}
use Rattle.lists.specs.Lists.{range}
use Rattle.places.specs.Plan.{nodes_offset, node_word}
use Rattle.places.proofs.layout.fill_nodes.Given as goal

abbrev pub invariant-loop-n : goal.invariant-loop-n
invariant-loop-n l = (l.at ≡ node_word l.table l.n) × (l.index ≡ sets l.initial.index nodes_offset (map (node_word l.table) (range l.n)))
