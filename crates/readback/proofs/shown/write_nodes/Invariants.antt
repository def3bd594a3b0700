use mathlib.Core.Path.{◌≡◌}
use mathlib.Core.List.{map}
use Prim.Native.Nat.{◌-◌}
use lib.Seq.{sets}
use Rattle.lists.specs.Lists.{from, range}
use Rattle.scheme.specs.Words.{threads as thread_count}
use Rattle.readback.proofs.Showing.{shown_node}
use Rattle.readback.proofs.shown.write_nodes.Given as goal

abbrev pub invariant-loop-t : goal.invariant-loop-t
invariant-loop-t l =
    (sets l.initial.state 0 (map (shown_node l.table l.nodes l.indexes) (range (thread_count l.table))) ≡ sets l.state l.t (map (shown_node l.table l.nodes l.indexes) (from l.t
    (l.threads - l.t))))
