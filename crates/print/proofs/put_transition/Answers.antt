use Rattle.print.proofs.Lines.{line-written}
use Rattle.print.proofs.put_transition.Goals as goal

pub returns : goal.returns
returns c =
    let a = c.args in
    line-written
    a.image.now
    a.transition
    _
    c.put_decimal-a.ensures
    c.put_label-b.ensures
    c.put_arcs-c.ensures
    c.put.ensures
