use mathlib.Core.Path.{◌≡◌}
use Prim.Native.Nat.{◌-◌}
use lib.ListN.{length}
use Rattle.lists.specs.Lists.{from}
use Rattle.scheme.specs.Spans.{tally_all}
use Rattle.scheme.proofs.spans.tally_span.Given as goal

abbrev pub invariant-loop-x : goal.invariant-loop-x
invariant-loop-x l = (tally_all l.initial.counts (from l.first (l.end - l.first)) ≡ tally_all l.counts (from l.x (l.end - l.x))) × (length l.counts ≡ length l.initial.counts)
