use native.Mathlib.Omega.{arith}
use Rattle.lists.proofs.Ranges.{flat-more, flat-done}
use Rattle.scheme.specs.Scheme.{scheme}
use Rattle.process.specs.StateWords.{state_of}
use Rattle.process.specs.Inner.Listed.{node_words}
use Rattle.process.proofs.Listed.{left-more, left_end}
use Rattle.process.proofs.listing.list_nodes.Goals as goal

pub loop-n-preserved : goal.loop-n-preserved
loop-n-preserved c =
    let l = c.loop-n in
    let a = c.args in
    let w = a.known.now.table.now in
    let s = state_of (scheme w) a.state.now in
    let r = c.list_node-next in (
      left-more _ _ _ _ _ _ l.invariant.0 _ _ _ _ _
          (flat-more (node_words (scheme w) s) l.n _ c.loop-n-test.true) r.ensures,
      omega (arith, l.invariant.1, r.ensures.few),
    )

pub returns : goal.returns
returns c =
    let l = c.loop-n in
    let a = c.args in
    let w = a.known.now.table.now in
    let s = state_of (scheme w) a.state.now in
    left_end _ _ _ _ _ _ l.invariant.0 _
    (flat-done (node_words (scheme w) s) l.n _ c.loop-n-test.false)
    (omega (arith, l.invariant.1, l.auto.n-end, c.word-nodes.ensures.small))
