use mathlib.Core.Path.{sym, ◌∙◌}
use Rattle.readback.proofs.Marking.{span_more, span-done}
use Rattle.readback.proofs.names.mark_span.Goals as goal

pub loop-i-preserved : goal.loop-i-preserved
loop-i-preserved c =
    let l = c.loop-i in
    l.invariant ∙ span_more 1 l.held c.args.first l.i c.args.count c.loop-i-test.true ∙ rw c.store.ensures

pub returns : goal.returns
returns c =
    let l = c.loop-i in
    sym (l.invariant ∙ span-done 1 l.held c.args.first l.i c.args.count c.loop-i-test.false)
