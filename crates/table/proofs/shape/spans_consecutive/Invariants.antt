use mathlib.Core.Path.{◌≡◌}
use Prim.Native.Nat.{◌-◌, ◌*◌, ◌≤◌}
use Rattle.lists.specs.Lists.{from, range}
use Rattle.table.specs.Causes.{consecutive}
use Rattle.scheme.specs.Spans.{span_first_of, span_count_of}
use Rattle.table.proofs.shape.spans_consecutive.Given as goal

abbrev pub invariant-loop-n : goal.invariant-loop-n
invariant-loop-n l = (consecutive l.table (span_first_of l.table l.source) (span_count_of l.table l.source) l.end 0 (range l.n-end) ≡ consecutive l.table (span_first_of l.table l.source) (span_count_of l.table l.source) l.end l.a (from l.n (l.n-end - l.n))) × (l.a ≤ l.n * 65536)
