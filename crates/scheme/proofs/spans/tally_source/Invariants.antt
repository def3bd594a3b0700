use mathlib.Core.Path.{◌≡◌}
use Prim.Native.Nat.{◌-◌}
use lib.ListN.{length}
use Rattle.lists.specs.Lists.{from, range, flat}
use Rattle.scheme.specs.Spans.{span_of, tally_all}
use Rattle.scheme.proofs.spans.tally_source.Given as goal

abbrev pub invariant-loop-i : goal.invariant-loop-i
invariant-loop-i l = (tally_all l.initial.counts (flat (span_of l.table l.source) (range l.n)) ≡ tally_all l.counts (flat (span_of l.table l.source) (from l.i (l.n - l.i)))) × (length l.counts ≡ length l.initial.counts)
