use mathlib.Core.Path.{◌≡◌}
use Prim.Native.Nat.{◌+◌, ◌-◌}
use lib.ListN.{replicate}
use lib.Seq.{sets}
use Rattle.scheme.specs.Words.{threads as thread_count, bounds as bound_count}
use Rattle.process.proofs.write_unheld.Given as goal

abbrev pub invariant-loop-i : goal.invariant-loop-i
invariant-loop-i l = (sets l.initial.out (thread_count l.table) (replicate (bound_count l.table) 65535) ≡ sets l.out (l.threads + l.i) (replicate (l.bounds - l.i) 65535))
