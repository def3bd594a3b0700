use Rattle.readback.proofs.Marking.{call-marked}
use Rattle.readback.proofs.names.mark_call.Goals as goal

pub returns : goal.returns
returns c =
    call-marked c.args.table.now c.args.names.now c.args.held.now _ _ c.args.node c.args.k c.args.count
    c.field3-d.result c.field4-formals.result c.field4.result c.saturating_sub.result c.min.result
    c.saturating_sub-2.result
    c.field3-d.ensures.is c.field4-formals.ensures.is c.field4.ensures.is c.saturating_sub.ensures
    c.min.ensures c.saturating_sub-2.ensures
    c.mark_span.ensures c.mark_names.ensures
