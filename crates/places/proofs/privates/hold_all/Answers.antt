use Rattle.std.proofs.Common.{◌<◌, arith}
use Rattle.scheme.specs.Scheme.{scheme}
use Rattle.table.proofs.Accepted.{accepted}
use Rattle.places.proofs.Controls.{nodes-are}
use Rattle.places.proofs.Holding.{held_small, below_next}
use Rattle.places.proofs.privates.hold_all.Goals as goal

pub overflow_cast-count : goal.overflow_cast-count
overflow_cast-count c =
    omega (arith, held_small c.args.table.now c.requires.0.accepted c.loop-node.node, c.held_count-count.ensures)

pub loop-node-preserved : goal.loop-node-preserved
loop-node-preserved c =
    let l = c.loop-node in
    let w = c.args.table.now in
    let u : l.node < (scheme w).nodes = omega (arith, nodes-are w, c.word-nodes.ensures.is, c.loop-node-test.true) in
    rw c.store.ensures
    (below_next (scheme w) (accepted w c.requires.0.accepted) l.node c.held_count-count.result l.held u l.invariant c.held_count-count.ensures)
