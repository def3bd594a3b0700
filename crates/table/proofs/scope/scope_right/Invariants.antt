use mathlib.Core.Path.{◌≡◌}
use Prim.Native.Nat.{◌-◌}
use Rattle.lists.specs.Lists.{from, range, every}
use Rattle.scheme.specs.Words.{root}
use Rattle.table.specs.Inner.Scope.{body_scoped}
use Rattle.table.proofs.scope.scope_right.Given as goal

abbrev pub invariant-loop-d : goal.invariant-loop-d
invariant-loop-d l = every (λ k. body_scoped l.table (root l.table k)) (range l.d-end) ≡ every (λ k. body_scoped l.table (root l.table k)) (from l.d (l.d-end - l.d))
