use Rattle.process.proofs.Taking.{new-goes, silent-goes, meeting-goes, call-goes}
use Rattle.process.proofs.next.node_after.Goals as goal

pub returns-in-New : goal.returns-in-New
returns-in-New c =
    rw c.in-New.is (new-goes _ _ _ _ _ _ _ _ c.node_thread-moved.ensures.is c.word-before.ensures.is
    (rw c.in-New.is at c.requires) c.field3.ensures.is c.node_if.ensures)

pub returns-in-Silent : goal.returns-in-Silent
returns-in-Silent c =
    rw c.in-Silent.is (silent-goes _ _ _ _ _ _ _ _ c.branch_thread-moved.ensures.is c.word-before.ensures.is
    (rw c.in-Silent.is at c.requires) c.field4.ensures.is c.node_if-in-Silent.ensures)

pub returns-in-Communicate : goal.returns-in-Communicate
returns-in-Communicate c =
    rw c.in-Communicate.is
    (meeting-goes _ _ _ _ _ _ _ _ _ _ _ _ c.branch_thread-sender.ensures.is c.branch_thread-receiver.ensures.is c.word-before.ensures.is
    (rw c.in-Communicate.is at c.requires) c.field4-in-Communicate.ensures.is c.field4-in-Communicate-2.ensures.is c.node_if-sent.ensures c.node_if-in-Communicate.ensures)

pub returns-in-Call : goal.returns-in-Call
returns-in-Call c =
    rw c.in-Call.is (call-goes _ _ _ _ _ _ _ _ c.node_thread-moved-in-Call.ensures.is c.word-before.ensures.is _
    (rw c.in-Call.is at c.requires) c.field3-called.ensures.is c.field4-in-Call.ensures.is c.node_if-in-Call.ensures)
