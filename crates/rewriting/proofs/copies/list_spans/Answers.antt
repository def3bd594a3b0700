use mathlib.Core.Path.{◌∙◌}
use Prim.Native.Nat.{◌+◌}
use native.Mathlib.Omega.{arith}
use Rattle.scheme.specs.Spans.{span_of}
use Rattle.process.proofs.Listed.{left-more, left_end}
use Rattle.rewriting.proofs.Laws.Stored.{listed-low, row_more, row_done}
use Rattle.rewriting.proofs.copies.list_spans.Goals as goal

pub loop-k-preserved : goal.loop-k-preserved
loop-k-preserved c =
    let a = c.args in
    let p = c.requires in
    let l = c.loop-k in
    let v = l.invariant in
    let r = c.list_span-next in
    let t = c.loop-k-test.true in
    let s = c.span_first-first.ensures.is in
    let n = c.span_count-count.ensures.is in (
      left-more _ _ _ _ _ _ v.0 _ _ _ _ _
          (row_more (span_of a.table.now a.source) a.out.now 512 a.nodes l.k
          c.word-node.result (c.word-node.ensures.is ∙ v.3 (512 + l.k) (omega (arith, t, p.0))) t p.1) (rw (s, n) at r.ensures),
      omega (arith, v.1, r.ensures.few),
      omega (arith, v.2, r.ensures.next),
      λ j h. listed-low _ _ _ _ _ _ r.ensures j (omega (arith, h, v.2)) ∙ v.3 j h,
    )

pub returns : goal.returns
returns c =
    let a = c.args in
    let l = c.loop-k in
    left_end _ _ _ _ _ _ l.invariant.0 _ (row_done (span_of a.table.now a.source) a.out.now 512 a.nodes l.k c.loop-k-test.false)
    (omega (arith, l.invariant.1, l.auto.k-end, c.requires.0, c.requires.2))
