use mathlib.Core.Path.{◌∙◌}
use Prim.Native.Nat.{◌-◌}
use native.Mathlib.Omega.{arith}
use Rattle.lists.specs.Lists.{from}
use Rattle.process.proofs.Listed.{left-more, left_end, slice-more, slice-done}
use Rattle.rewriting.specs.Inner.Copying.{grouped}
use Rattle.rewriting.proofs.Laws.Stored.{listed-low}
use Rattle.rewriting.proofs.copies.list_groups.Goals as goal

pub loop-k-preserved : goal.loop-k-preserved
loop-k-preserved c =
    let a = c.args in
    let p = c.requires in
    let l = c.loop-k in
    let v = l.invariant in
    let r = c.list_group-next in
    let t = c.loop-k-test.true in (
      left-more _ _ _ _ _ _ v.0 _ _ _ _ _
          (slice-more (grouped a.of.now (from a.first (a.end - a.first))) a.out.now l.k a.groups
          c.word-group.result (c.word-group.ensures.is ∙ v.3 l.k (omega (arith, t, p.1))) t p.2) r.ensures,
      omega (arith, v.1, r.ensures.few),
      omega (arith, v.2, r.ensures.next),
      λ j h. listed-low _ _ _ _ _ _ r.ensures j (omega (arith, h, v.2)) ∙ v.3 j h,
    )

pub returns : goal.returns
returns c =
    let a = c.args in
    let l = c.loop-k in
    left_end _ _ _ _ _ _ l.invariant.0 _
    (slice-done (grouped a.of.now (from a.first (a.end - a.first))) a.out.now l.k a.groups c.loop-k-test.false)
    (omega (arith, l.invariant.1, l.auto.k-end, c.requires.1, c.requires.3))
