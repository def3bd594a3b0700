use mathlib.Core.Path.{refl, sym, ◌∙◌}
use Rattle.process.proofs.Taking.{met-sender-ends, met-receiver-ends, met-takes, met-keeps}
use Rattle.process.proofs.next.value_after_meeting.Goals as goal

pub returns-then-ends : goal.returns-then-ends
returns-then-ends c =
    met-sender-ends _ _ _ _ _ _ _ _ _ c.requires c.branch_thread-sender.ensures.is c.field4-sent.ensures.is
    c.branch_thread-receiver.ensures.is refl (sym c.ends.ensures ∙ c.if-ends.true)

pub returns-then-ends-2 : goal.returns-then-ends-2
returns-then-ends-2 c =
    met-receiver-ends _ _ _ _ _ _ _ _ _ c.requires c.branch_thread-sender.ensures.is c.field4-sent.ensures.is
    c.branch_thread-receiver.ensures.is c.field4-received.ensures.is (sym c.ends.ensures ∙ c.if-ends.false) (sym c.ends-2.ensures ∙ c.if-ends-2.true)

pub returns-then-name-field4 : goal.returns-then-name-field4
returns-then-name-field4 c =
    met-takes _ _ _ _ _ _ _ _ _ c.requires c.branch_thread-sender.ensures.is c.field4-sent.ensures.is c.branch_thread-receiver.ensures.is
    c.field4-received.ensures.is _ _ _ (sym c.ends.ensures ∙ c.if-ends.false) (sym c.ends-2.ensures ∙ c.if-ends-2.false) c.field4.ensures.is
    c.if-name-field4.true c.field4-then-name-field4.ensures.is c.value_of.ensures

pub returns : goal.returns
returns c =
    met-keeps _ _ _ _ _ _ _ _ _ c.requires c.branch_thread-sender.ensures.is c.field4-sent.ensures.is c.branch_thread-receiver.ensures.is
    c.field4-received.ensures.is _ _ (sym c.ends.ensures ∙ c.if-ends.false) (sym c.ends-2.ensures ∙ c.if-ends-2.false) c.field4.ensures.is
    c.if-name-field4.false c.value_of-2.ensures
