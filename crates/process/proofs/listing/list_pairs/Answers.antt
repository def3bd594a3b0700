use mathlib.Core.Path.{refl, ◌∙◌}
use native.Mathlib.Omega.{arith}
use Rattle.scheme.specs.Scheme.{scheme}
use Rattle.process.specs.StateWords.{state_of}
use Rattle.process.specs.Inner.Listed.{pair_words}
use Rattle.process.proofs.Listed.{left-start, left-more, left_end, slice-more, slice-done, slice_all, pairs-are}
use Rattle.process.proofs.listing.list_pairs.Goals as goal

pub loop-receive-init : goal.loop-receive-init
loop-receive-init c = (left-start _ _ _ _ (pairs-are _ _ _ _ ∙ slice_all _ _), omega arith)

pub loop-receive-preserved : goal.loop-receive-preserved
loop-receive-preserved c =
    let l = c.loop-receive in
    let a = c.args in
    let w = a.known.now.table.now in
    let s = state_of (scheme w) a.state.now in
    let r = c.list_pair-next in (
      left-more _ _ _ _ _ _ l.invariant.0 _ _ _ _ _
          (slice-more (pair_words (scheme w) s a.send) a.receives.now l.receive-index _
          _ refl c.loop-receive-test.true (omega arith)) r.ensures,
      omega (arith, l.invariant.1, r.ensures.few),
    )

pub returns : goal.returns
returns c =
    let l = c.loop-receive in
    let a = c.args in
    let w = a.known.now.table.now in
    let s = state_of (scheme w) a.state.now in
    left_end _ _ _ _ _ _ l.invariant.0 _
    (slice-done (pair_words (scheme w) s a.send) a.receives.now l.receive-index _ c.loop-receive-test.false)
    (omega (arith, l.invariant.1, l.auto.receive-index-end, c.requires.0))
