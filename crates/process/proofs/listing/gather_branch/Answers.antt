use mathlib.Core.Path.{◌≡◌, sym, ◌∙◌}
use mathlib.Core.List.{[]}
use Rattle.scheme.specs.Scheme.{scheme}
use Rattle.process.specs.StateWords.{state_of}
use Rattle.process.specs.Inner.Listed.{standing}
use Rattle.process.proofs.Labelling.{stand-there}
use Rattle.process.proofs.Listed.{none-listed, one-listed, standing-other, standing-away, standing-there}
use Rattle.process.proofs.listing.gather_branch.Goals.{else-branch_is-via-then-branch_is+else-stands, else-branch_is-via-else-branch_is}
use Rattle.process.proofs.listing.gather_branch.Goals as goal

pub returns-then-stands : goal.returns-then-stands
returns-then-stands c =
    let a = c.args in
    let w = a.known.now.table.now in
    let s = state_of (scheme w) a.state.now in
    let h = stand-there (scheme w) s _ _ _ c.home.ensures c.stands.ensures in
    rw (standing-there w s a.kind a.branch (sym c.branch_is.ensures ∙ c.if-branch_is.true) (sym h ∙ c.if-stands.true))
    (one-listed _ _ _ _ c.store.ensures)

pub returns : goal.returns
returns c =
    let a = c.args in
    let w = a.known.now.table.now in
    let s = state_of (scheme w) a.state.now in
    let e : standing w s a.kind a.branch ≡ [] = elim c.else-branch_is.branch [
      | else-branch_is-via-then-branch_is+else-stands p ↦
          standing-away w s a.kind a.branch (sym (stand-there (scheme w) s _ _ _ p.home.ensures p.stands.ensures) ∙ p.if-stands.false)
      | else-branch_is-via-else-branch_is p ↦ standing-other w s a.kind a.branch (sym c.branch_is.ensures ∙ p.if-branch_is.false)
    ] in
    rw e (none-listed _ _ _)
