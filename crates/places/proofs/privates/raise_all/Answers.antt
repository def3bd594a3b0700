use Rattle.std.proofs.Common.{◌<◌, ◌∙◌, arith}
use Rattle.scheme.specs.Scheme.{scheme}
use Rattle.table.proofs.Accepted.{accepted}
use Rattle.table.proofs.Lookup.{thread-right}
use Rattle.places.proofs.Controls.{nodes-are}
use Rattle.places.proofs.Holding.{raised-more, raised_all}
use Rattle.places.proofs.privates.raise_all.Goals as goal

pub loop-n-preserved : goal.loop-n-preserved
loop-n-preserved c =
    let l = c.loop-n in
    let w = c.args.table.now in
    let h = c.requires.0.accepted in
    let u : l.n < (scheme w).nodes = omega (arith, nodes-are w, c.word-nodes.ensures.is, c.loop-n-test.true) in
    rw c.raise.ensures
    (raised-more (scheme w) (accepted w h) l.n c.node_thread.result c.most_at.result l.most u l.invariant
    (c.node_thread.ensures.is ∙ thread-right w h c.args.index.now c.requires.0.right l.n) c.most_at.ensures.0)

pub returns : goal.returns
returns c =
    let w = c.args.table.now in
    let l = c.loop-n in
    raised_all (scheme w) (accepted w c.requires.0.accepted) l.n l.most l.invariant
    (omega (arith, nodes-are w, c.loop-n-test.false, c.word-nodes.ensures.is))
