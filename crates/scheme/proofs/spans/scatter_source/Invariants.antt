use mathlib.Core.Path.{◌≡◌}
use Prim.Native.Nat.{◌≤◌}
use lib.ListN.{length}
use Rattle.scheme.specs.Spans.{span_of}
use Rattle.scheme.specs.Inner.Scatter.{scatter}
use Rattle.scheme.proofs.spans.scatter_source.Given as goal

abbrev pub invariant-loop-i : goal.invariant-loop-i
invariant-loop-i l = (scatter (span_of l.table l.source) l.tag l.n l.initial.out ≡ scatter (span_of l.table l.source) l.tag l.i l.out) × (length l.out ≡ length l.initial.out) × (l.i ≤ l.n)

abbrev pub decreases-loop-i : goal.decreases-loop-i
decreases-loop-i l = l.i
