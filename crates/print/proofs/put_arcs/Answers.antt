use Rattle.print.proofs.Lines.{arcs-written}
use Rattle.print.proofs.put_arcs.Goals as goal

pub returns : goal.returns
returns c =
    let start = c.record_start-record in
    let a = c.args in
    arcs-written
    a.image.now
    a.transition
    start.result
    start.ensures.is
    c.word-inputs.result
    c.word.result
    c.word-2.result
    c.word-inputs.ensures.is
    c.word.ensures.is
    c.word-2.ensures.is
    _
    c.put_mark-a.ensures
    c.put_span-b.ensures
    c.put_mark-c.ensures
    c.put_span.ensures
