use mathlib.Core.Path.{refl, sym}
use lib.Seq.{length-take-le}
use Rattle.scheme.specs.Scheme.{scheme}
use Rattle.process.specs.StateWords.{state_of}
use Rattle.process.proofs.Fitted.{gathered-reach, opened-words, fitted_short, fitted-full}
use Rattle.process.proofs.listing.list_open.Goals as goal

pub slice_bounds-sent-end : goal.slice_bounds-sent-end
slice_bounds-sent-end c =
    gathered-reach _ c.args.known.now.known.accepted _ _ _ _ c.gather-s.ensures refl

pub slice_bounds-sends-end : goal.slice_bounds-sends-end
slice_bounds-sends-end c =
    sym (length-take-le _ _ (gathered-reach _ c.args.known.now.known.accepted _ _ _ _ c.gather-s.ensures refl))

pub slice_bounds-received-end : goal.slice_bounds-received-end
slice_bounds-received-end c =
    gathered-reach _ c.args.known.now.known.accepted _ _ _ _ c.gather-r.ensures refl

pub slice_bounds-receives-end : goal.slice_bounds-receives-end
slice_bounds-receives-end c =
    sym (length-take-le _ _ (gathered-reach _ c.args.known.now.known.accepted _ _ _ _ c.gather-r.ensures refl))

pub returns-then-labels-size : goal.returns-then-labels-size
returns-then-labels-size c =
    let a = c.args in
    let w = a.known.now.table.now in
    let s = state_of (scheme w) a.state.now in
    rw (opened-words w s c.args.known.now.known.accepted _ _ _ _ _ _ c.gather-s.ensures refl c.gather-r.ensures refl)
    (fitted_short _ _ _ c.count-size.ensures c.if-labels-size.true)

pub returns : goal.returns
returns c =
    let a = c.args in
    let w = a.known.now.table.now in
    let s = state_of (scheme w) a.state.now in
    rw (opened-words w s c.args.known.now.known.accepted _ _ _ _ _ _ c.gather-s.ensures refl c.gather-r.ensures refl)
    (fitted-full _ _ _ _ _ _ c.list.ensures c.count-size.ensures c.if-labels-size.false)
