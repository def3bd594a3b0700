use native.Mathlib.Omega.{arith}
use Rattle.lists.proofs.Ranges.{flat-more, flat-done}
use Rattle.scheme.specs.Scheme.{scheme}
use Rattle.process.specs.Inner.Listed.{silent_words}
use Rattle.process.proofs.Listed.{left-more, left_end}
use Rattle.process.proofs.listing.list_branches.Goals as goal

pub loop-b-preserved : goal.loop-b-preserved
loop-b-preserved c =
    let l = c.loop-b in
    let r = c.list_branch-next in (
      left-more _ _ _ _ _ _ l.invariant.0 _ _ _ _ _
          (flat-more (silent_words (scheme c.args.table.now)) l.b _ c.loop-b-test.true) r.ensures,
      omega (arith, l.invariant.1, r.ensures.few),
    )

pub returns : goal.returns
returns c =
    let l = c.loop-b in
    let p = c.requires in
    left_end _ _ _ _ _ _ l.invariant.0 _
    (flat-done (silent_words (scheme c.args.table.now)) l.b _ c.loop-b-test.false)
    (omega (arith, p.0, p.1, l.invariant.1, l.auto.b-end (omega arith)))
