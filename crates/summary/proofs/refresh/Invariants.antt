-- Loop: the transitions below this one are worked out.
use Rattle.std.proofs.Common.{◌≡◌, ◌&&◌, ltb}
use Rattle.net.specs.Image.{transition_count, inputs_at}
use Rattle.summary.specs.Summary.{summary}
use Rattle.summary.specs.Inner.Marks.{missing_in, is_worked_afresh, refreshed}
use Rattle.summary.proofs.refresh.Given as goal

abbrev pub invariant-loop-transition : goal.invariant-loop-transition
invariant-loop-transition l =
    summary l.counts l.enabled
    ≡ refreshed (transition_count l.image) (λ u. ltb u l.transition && is_worked_afresh l.image l.bytes l.all u) (λ u. missing_in l.bytes (inputs_at l.image u))
    (summary l.initial.counts l.initial.enabled)
