use mathlib.Core.Path.{sym, ap, ◌∙◌}
use native.Mathlib.Omega.{arith}
use Rattle.lists.proofs.Ranges.{flat-more, flat-done}
use Rattle.builder.specs.Inner.Parts.{put, state, of_table}
use Rattle.builder.proofs.Writing.{put-none}
use Rattle.builder.proofs.Chains.{state-length}
use Rattle.builder.proofs.ChainLoops.{part-inside, part-more}
use Rattle.builder.proofs.NodeArrows.{node_all}
use Rattle.builder.proofs.nodes.nodes.Goals as goal

pub node-q-requires : goal.node-q-requires
node-q-requires c =
    let a = c.args in
    let p = c.requires in
    let w = a.table.now in
    let l = c.loop-n in
    let t = c.loop-n-test.true in (
      p.0,
      omega (arith, t, c.word-count.ensures.is),
      part-inside (of_table w) _ (state l.out l.q) _ _
          (l.invariant.0 ∙ ap (put w l.out l.q) (flat-more (node_all w) l.n c.word-count.result t)) p.1,
      c.first_reads-read.ensures,
    )

pub loop-n-preserved : goal.loop-n-preserved
loop-n-preserved c =
    let w = c.args.table.now in
    let l = c.loop-n in
    let e = flat-more (node_all w) l.n c.word-count.result c.loop-n-test.true in (
      part-more (of_table w) _ (state l.out l.q) _ _ (l.invariant.0 ∙ ap (put w l.out l.q) e) _ c.node-q.ensures,
      state-length w l.out _ l.q _ _ c.node-q.ensures ∙ l.invariant.1,
    )

pub returns : goal.returns
returns c =
    let w = c.args.table.now in
    let l = c.loop-n in
    sym (l.invariant.0 ∙ ap (put w l.out l.q) (flat-done (node_all w) l.n c.word-count.result c.loop-n-test.false)
    ∙ put-none (of_table w) (state l.out l.q))
