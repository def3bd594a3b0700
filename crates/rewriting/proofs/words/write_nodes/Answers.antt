use native.Mathlib.Omega.{arith}
use Rattle.lists.proofs.Ranges.{flat-more, flat-done}
use Rattle.process.proofs.Listed.{left-more, left_end}
use Rattle.rewriting.specs.Rewriting.{node_words}
use Rattle.rewriting.proofs.words.write_nodes.Goals as goal

pub loop-n-preserved : goal.loop-n-preserved
loop-n-preserved c =
    let a = c.args in
    let l = c.loop-n in
    let r = c.write_node-next in (
      left-more _ _ _ _ _ _ l.invariant.0 _ _ _ _ _ (flat-more (node_words a.table.now) l.n _ c.loop-n-test.true) r.ensures,
      omega (arith, l.invariant.1, r.ensures.few),
    )

pub returns : goal.returns
returns c =
    let a = c.args in
    let l = c.loop-n in
    left_end _ _ _ _ _ _ l.invariant.0 _ (flat-done (node_words a.table.now) l.n _ c.loop-n-test.false)
    (omega (arith, l.invariant.1, l.auto.n-end, c.word-nodes.ensures.small))
