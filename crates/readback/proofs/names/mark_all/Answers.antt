use mathlib.Core.Path.{sym, ◌∙◌}
use Rattle.readback.proofs.Holding.{all_start, all_more, all_done}
use Rattle.readback.proofs.names.mark_all.Goals as goal

pub loop-t-init : goal.loop-t-init
loop-t-init c = all_start c.args.table.now c.args.places.now c.args.indexes.now c.args.held.now c.word-threads.result c.word-threads.ensures.is

pub loop-t-preserved : goal.loop-t-preserved
loop-t-preserved c =
    let l = c.loop-t in
    l.invariant
    ∙ all_more c.args.table.now c.args.places.now c.args.indexes.now l.held l.t c.word-threads.result
    c.word.result c.word-in-loop-t.result
    c.loop-t-test.true c.word.ensures.is c.word-in-loop-t.ensures.is
    ∙ rw c.mark_held.ensures

pub returns : goal.returns
returns c =
    let l = c.loop-t in
    sym (l.invariant ∙ all_done c.args.table.now c.args.places.now c.args.indexes.now l.held l.t c.word-threads.result
    c.loop-t-test.false)
