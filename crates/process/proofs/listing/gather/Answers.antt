use native.Mathlib.Omega.{arith}
use Rattle.lists.proofs.Ranges.{flat-more, flat-done}
use Rattle.scheme.specs.Scheme.{scheme}
use Rattle.process.specs.StateWords.{state_of}
use Rattle.process.specs.Inner.Listed.{standing}
use Rattle.process.proofs.Listed.{left-more, left_end}
use Rattle.process.proofs.listing.gather.Goals as goal

pub loop-b-preserved : goal.loop-b-preserved
loop-b-preserved c =
    let l = c.loop-b in
    let a = c.args in
    let w = a.known.now.table.now in
    let s = state_of (scheme w) a.state.now in
    let r = c.gather_branch-next in (
      left-more _ _ _ _ _ _ l.invariant.0 _ _ _ _ _
          (flat-more (standing w s a.kind) l.b _ c.loop-b-test.true) r.ensures,
      omega (arith, l.invariant.1, r.ensures.few),
    )

pub returns : goal.returns
returns c =
    let l = c.loop-b in
    let a = c.args in
    let w = a.known.now.table.now in
    let s = state_of (scheme w) a.state.now in
    left_end _ _ _ _ _ _ l.invariant.0 _
    (flat-done (standing w s a.kind) l.b _ c.loop-b-test.false)
    (omega (arith, l.invariant.1, l.auto.b-end, c.word-branches.ensures.is))
