use native.Mathlib.Omega.{arith}
use Rattle.process.proofs.Listed.{left-more, left_end}
use Rattle.rewriting.proofs.Laws.Stored.{grouped-more, grouped-done}
use Rattle.rewriting.proofs.copies.list_group.Goals as goal

pub loop-i-preserved : goal.loop-i-preserved
loop-i-preserved c =
    let a = c.args in
    let l = c.loop-i in
    let r = c.list_member-next in (
      left-more _ _ _ _ _ _ l.invariant.0 _ _ _ _ _ (grouped-more a.of.now a.group l.i a.end c.loop-i-test.true) r.ensures,
      omega (arith, l.invariant.1, r.ensures.few),
      omega (arith, c.loop-i-test.true),
    )

pub returns : goal.returns
returns c =
    let a = c.args in
    let l = c.loop-i in
    left_end _ _ _ _ _ _ l.invariant.0 _ (grouped-done a.of.now a.group l.i a.end c.loop-i-test.false)
    (omega (arith, l.invariant.1, l.invariant.2, l.auto.i-end, c.requires.0))
