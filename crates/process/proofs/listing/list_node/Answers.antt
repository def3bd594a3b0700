use mathlib.Core.Path.{sym, ◌∙◌}
use Rattle.scheme.specs.Scheme.{scheme}
use Rattle.process.specs.StateWords.{state_of}
use Rattle.process.proofs.Listed.{none-listed, node-yes, node-no}
use Rattle.process.proofs.listing.list_node.Goals as goal

pub returns-then-stands : goal.returns-then-stands
returns-then-stands c =
    let a = c.args in
    let w = a.known.now.table.now in
    let s = state_of (scheme w) a.state.now in
    rw (node-yes (scheme w) s a.node (sym c.stands.ensures ∙ c.if-stands.true))
    c.list_steps.ensures

pub returns : goal.returns
returns c =
    let a = c.args in
    let w = a.known.now.table.now in
    let s = state_of (scheme w) a.state.now in
    rw (node-no (scheme w) s a.node (sym c.stands.ensures ∙ c.if-stands.false))
    (none-listed _ _ _)
