use mathlib.Core.Path.{◌≡◌}
use Prim.Native.Nat.{◌-◌}
use mathlib.Core.List.{map}
use lib.Seq.{sets}
use Rattle.lists.specs.Lists.{from, range}
use Rattle.scheme.specs.Words.{threads as thread_count, root, entry}
use Rattle.process.proofs.write_roots.Given as goal

abbrev pub invariant-loop-t : goal.invariant-loop-t
invariant-loop-t l = (sets l.initial.out 0 (map (λ t. root l.table (entry l.table t)) (range (thread_count l.table))) ≡ sets l.out l.t (map (λ t. root l.table (entry l.table t)) (from l.t (l.threads - l.t))))
