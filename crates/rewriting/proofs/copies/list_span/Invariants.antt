use mathlib.Core.List.{map}
use Prim.Native.Nat.{◌+◌, ◌-◌}
use Rattle.lists.specs.Lists.{from}
use Rattle.process.proofs.Listed.{Left}
use Rattle.rewriting.proofs.copies.list_span.Given as goal

abbrev pub invariant-loop-i : goal.invariant-loop-i
invariant-loop-i l = Left (from l.first l.count) l.initial.out l.at (map (λ k. l.first + k) (from l.i (l.count - l.i))) l.out (l.at + l.i)
