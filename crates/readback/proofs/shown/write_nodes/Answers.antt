use mathlib.Core.Path.{sym, ◌∙◌}
use Rattle.process.proofs.Sets.{sets-map-more, sets-map-done}
use Rattle.readback.proofs.Showing.{shown_node}
use Rattle.readback.proofs.shown.write_nodes.Goals as goal

pub loop-t-preserved : goal.loop-t-preserved
loop-t-preserved c =
    let l = c.loop-t in
    let a = c.args in
    l.invariant
    ∙ sets-map-more (shown_node a.table.now a.nodes.now a.indexes.now) l.state l.t l.t c.word-threads.result c.loop-t-test.true
    ∙ rw (c.store.ensures, c.node_shown.ensures.is, c.word.ensures.is, c.word-in-loop-t.ensures.is)

pub returns : goal.returns
returns c =
    let l = c.loop-t in
    let a = c.args in
    sym (l.invariant ∙ sets-map-done (shown_node a.table.now a.nodes.now a.indexes.now) l.state l.t l.t c.word-threads.result c.loop-t-test.false)
