use mathlib.Core.Path.{sym, ◌∙◌}
use native.Mathlib.Omega.{arith}
use Rattle.process.proofs.Decoding.{new-there}
use Rattle.process.proofs.Listed.{none-listed, listed_more, steps-choice, steps-new, steps-call, steps-none}
use Rattle.process.proofs.listing.list_steps.Goals as goal

pub returns-then-node_is : goal.returns-then-node_is
returns-then-node_is c =
    let a = c.args in
    rw (steps-choice a.table.now a.node (sym c.node_is.ensures ∙ c.if-node_is.true), ← c.field3.ensures.is, ← c.field3-then-node_is.ensures.is)
    c.list_branches.ensures

pub write_label-requires : goal.write_label-requires
write_label-requires c =
    ((new-there _ _ ∙ sym c.node_is-2.ensures ∙ c.if-node_is-2.true, omega (arith, c.requires.0)), omega (arith, c.requires.1))

pub returns-then-node_is-2 : goal.returns-then-node_is-2
returns-then-node_is-2 c =
    let a = c.args in
    rw (steps-new a.table.now a.node (sym c.node_is-2.ensures ∙ c.if-node_is-2.true))
    (listed_more _ _ _ _ _ 3 196608 (omega arith) c.write_label.ensures)

pub returns-then-node_is-3 : goal.returns-then-node_is-3
returns-then-node_is-3 c =
    let a = c.args in
    rw (steps-call a.table.now a.node (sym c.node_is-3.ensures ∙ c.if-node_is-3.true))
    (listed_more _ _ _ _ _ 3 196608 (omega arith) c.write_label-then-node_is-3.ensures)

pub returns : goal.returns
returns c =
    let a = c.args in
    rw (steps-none a.table.now a.node (sym c.node_is.ensures ∙ c.if-node_is.false) (sym c.node_is-2.ensures ∙ c.if-node_is-2.false)
    (sym c.node_is-3.ensures ∙ c.if-node_is-3.false))
    (none-listed _ _ _)
