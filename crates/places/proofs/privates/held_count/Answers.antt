use Rattle.places.proofs.Holding.{root-holds, new-holds, receive-holds, branch-holds, nobody-holds}
use Rattle.places.proofs.privates.held_count.Goals as goal

pub returns-then-field4-eq2 : goal.returns-then-field4-eq2
returns-then-field4-eq2 c =
    let a = c.args in
    receive-holds a.table.now a.index.now c.requires.0 a.node c.requires.1 _
    c.step_up.ensures a.below.now c.requires.2
    _ _ _ _ c.in-Branch.is c.field4-in-Branch.ensures.is c.if-field4-eq2.true c.word-held.ensures.is

pub returns-in-Definition : goal.returns-in-Definition
returns-in-Definition c =
    let a = c.args in
    root-holds a.table.now a.index.now c.requires.0 a.node c.requires.1 _
    c.step_up.ensures a.below.now c.requires.2 _ _ c.in-Definition.is c.field4.ensures.is

pub returns-in-New : goal.returns-in-New
returns-in-New c =
    let a = c.args in
    new-holds a.table.now a.index.now c.requires.0 a.node c.requires.1 _
    c.step_up.ensures a.below.now c.requires.2 _ _ c.in-New.is c.word.ensures.is

pub returns-else-field4-eq2 : goal.returns-else-field4-eq2
returns-else-field4-eq2 c =
    let a = c.args in
    branch-holds a.table.now a.index.now c.requires.0 a.node c.requires.1 _
    c.step_up.ensures a.below.now c.requires.2
    _ _ _ _ c.in-Branch.is c.field4-in-Branch.ensures.is c.if-field4-eq2.false c.word-held.ensures.is

pub returns-in-Nobody : goal.returns-in-Nobody
returns-in-Nobody c =
    let a = c.args in
    nobody-holds a.table.now a.index.now c.requires.0 a.node c.requires.1 _
    c.step_up.ensures a.below.now c.requires.2 c.in-Nobody.is
