use mathlib.Core.Path.{sym, ◌∙◌}
use Rattle.scheme.specs.Scheme.{scheme}
use Rattle.process.proofs.Decoding.{silent-there}
use Rattle.process.proofs.Listed.{none-listed, silent-yes, silent-no}
use Rattle.process.proofs.listing.list_branch.Goals as goal

pub returns-then-branch_is : goal.returns-then-branch_is
returns-then-branch_is c =
    let a = c.args in
    let w = a.table.now in
    rw (silent-yes (scheme w) a.branch (silent-there w a.branch ∙ sym c.branch_is.ensures ∙ c.if-branch_is.true))
    c.write_label.ensures

pub returns : goal.returns
returns c =
    let a = c.args in
    let w = a.table.now in
    rw (silent-no (scheme w) a.branch (silent-there w a.branch ∙ sym c.branch_is.ensures ∙ c.if-branch_is.false))
    (none-listed _ _ _)
