use mathlib.Core.Path.{refl, ◌∙◌}
use native.Mathlib.Omega.{arith}
use Rattle.scheme.specs.Scheme.{scheme}
use Rattle.process.specs.StateWords.{state_of}
use Rattle.process.specs.Inner.Listed.{pairs_words}
use Rattle.process.proofs.Listed.{left-start, left-more, left_end, slice-more, slice-done, slice_all, meetings-are}
use Rattle.process.proofs.listing.list_meetings.Goals as goal

pub loop-send-init : goal.loop-send-init
loop-send-init c = (left-start _ _ _ _ (meetings-are _ _ _ _ ∙ slice_all _ _), omega arith)

pub loop-send-preserved : goal.loop-send-preserved
loop-send-preserved c =
    let l = c.loop-send in
    let a = c.args in
    let w = a.known.now.table.now in
    let s = state_of (scheme w) a.state.now in
    let r = c.list_pairs-next in (
      left-more _ _ _ _ _ _ l.invariant.0 _ _ _ _ _
          (slice-more (pairs_words (scheme w) s a.receives.now) a.sends.now l.send-index _
          _ refl c.loop-send-test.true (omega arith)) r.ensures,
      omega (arith, l.invariant.1, r.ensures.few),
    )

pub returns : goal.returns
returns c =
    let l = c.loop-send in
    let a = c.args in
    let w = a.known.now.table.now in
    let s = state_of (scheme w) a.state.now in
    left_end _ _ _ _ _ _ l.invariant.0 _
    (slice-done (pairs_words (scheme w) s a.receives.now) a.sends.now l.send-index _ c.loop-send-test.false)
    (omega (arith, l.invariant.1, l.auto.send-index-end, c.requires.0))
