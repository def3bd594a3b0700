-- Each return is one test of the definition, in its order.
use Rattle.std.proofs.Common.{true, false, refl, sym, ◌∙◌, arith}
use Rattle.net.proofs.Images.{before-arcs, past_end, lists_right}
use Rattle.net.proofs.arcs.record_right.Goals as goal

pub returns-then-inputs-arcs_start : goal.returns-then-inputs-arcs_start
returns-then-inputs-arcs_start c =
    let a = c.arcs_start.ensures in
    sym (before-arcs _ _ _ _ _ c.span_of-span.ensures (omega (arith, a.is, c.if-inputs-arcs_start.true)))

pub returns-then-image-end : goal.returns-then-image-end
returns-then-image-end c =
    let a = c.arcs_start.ensures in
    sym (past_end _ _ _ _ _ c.span_of-span.ensures (omega (arith, a.is, c.if-inputs-arcs_start.false)) c.if-image-end.true)

pub returns-then-rising_short : goal.returns-then-rising_short
returns-then-rising_short c =
    let a = c.arcs_start.ensures in
    lists_right _ _ _ _ _ c.span_of-span.ensures (omega (arith, a.is, c.if-inputs-arcs_start.false)) c.if-image-end.false true _ c.if-rising_short.ensures
    c.rising_short-then-rising_short.ensures

pub returns-else-rising_short : goal.returns-else-rising_short
returns-else-rising_short c =
    let a = c.arcs_start.ensures in
    c.if-rising_short.false ∙ lists_right _ _ _ _ _ c.span_of-span.ensures (omega (arith, a.is, c.if-inputs-arcs_start.false)) c.if-image-end.false false _
    c.if-rising_short.ensures refl
