use Rattle.scheme.specs.Scheme.{scheme}
use Rattle.process.specs.StateWords.{state_of}
use Rattle.process.proofs.Listed.{listed-append, all_are}
use Rattle.process.proofs.listing.list.Goals as goal

pub returns : goal.returns
returns c =
    let a = c.args in
    let w = a.known.now.table.now in
    let s = state_of (scheme w) a.state.now in
    rw (all_are w s a.sends.now a.receives.now)
    (listed-append _ _ _ _ _ _ _ _ _ _ c.list_nodes-at.ensures c.list_meetings.ensures)
