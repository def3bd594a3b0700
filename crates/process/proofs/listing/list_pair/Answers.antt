use mathlib.Core.Path.{sym, ◌∙◌}
use Rattle.scheme.specs.Scheme.{scheme}
use Rattle.process.specs.StateWords.{state_of}
use Rattle.process.proofs.Listed.{none-listed, pair-yes, pair-no}
use Rattle.process.proofs.listing.list_pair.Goals as goal

pub returns-then-can_meet : goal.returns-then-can_meet
returns-then-can_meet c =
    let a = c.args in
    let w = a.known.now.table.now in
    let s = state_of (scheme w) a.state.now in
    rw (pair-yes (scheme w) s a.send a.receive (sym c.can_meet.ensures ∙ c.if-can_meet.true))
    c.write_label.ensures

pub returns : goal.returns
returns c =
    let a = c.args in
    let w = a.known.now.table.now in
    let s = state_of (scheme w) a.state.now in
    rw (pair-no (scheme w) s a.send a.receive (sym c.can_meet.ensures ∙ c.if-can_meet.false))
    (none-listed _ _ _)
