use Rattle.print.proofs.Lines.{label-written}
use Rattle.print.proofs.put_label.Goals as goal

pub returns : goal.returns
returns c =
    label-written
    c.args.image.now
    c.args.transition
    c.record_start-record.result
    c.record_start-record.ensures.is
    _
    c.put_word-p.ensures
    c.put_word-q.ensures
    c.put_word.ensures
