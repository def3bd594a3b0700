use mathlib.Core.Path.{sym, ◌∙◌}
use Rattle.process.proofs.Taking.{call-keeps, call_ends, call_below, call-above, call_passes}
use Rattle.process.proofs.next.value_after_call.Goals as goal

pub returns-then-name_thread-thread : goal.returns-then-name_thread-thread
returns-then-name_thread-thread c =
    call-keeps _ _ _ _ c.args.known.now.known.accepted c.requires _ _ _ c.node_thread-thread.ensures.is c.name_thread.ensures c.if-name_thread-thread.true c.value_of.ensures

pub returns-then-is_stop : goal.returns-then-is_stop
returns-then-is_stop c =
    call_ends _ _ _ _ c.args.known.now.known.accepted c.requires _ _ _ c.node_thread-thread.ensures.is c.name_thread.ensures c.if-name_thread-thread.false c.field3-called.ensures.is
    _ c.field4.ensures.is (sym c.is_stop.ensures ∙ c.if-is_stop.true)

pub returns-then-name-first : goal.returns-then-name-first
returns-then-name-first c =
    call_below _ _ _ _ c.args.known.now.known.accepted c.requires _ _ _ c.node_thread-thread.ensures.is c.name_thread.ensures c.if-name_thread-thread.false c.field3-called.ensures.is
    _ c.field4.ensures.is (sym c.is_stop.ensures ∙ c.if-is_stop.false) _ c.field4-first.ensures.is c.if-name-first.true

pub returns-then-name-first-2 : goal.returns-then-name-first-2
returns-then-name-first-2 c =
    call_passes _ _ _ _ c.args.known.now.known.accepted c.requires _ _ _ c.node_thread-thread.ensures.is c.name_thread.ensures c.if-name_thread-thread.false
    c.field3-called.ensures.is _ c.field4.ensures.is (sym c.is_stop.ensures ∙ c.if-is_stop.false) _ _ _ _ _ c.field4-first.ensures.is
    c.field4-2.ensures.is c.if-name-first.false c.if-name-first-2.true c.field3.ensures.is c.field1.ensures.is c.value_of-then-name-first-2.ensures

pub returns : goal.returns
returns c =
    call-above _ _ _ _ c.args.known.now.known.accepted c.requires _ _ _ c.node_thread-thread.ensures.is c.name_thread.ensures c.if-name_thread-thread.false
    c.field3-called.ensures.is _ c.field4.ensures.is (sym c.is_stop.ensures ∙ c.if-is_stop.false) _ _ c.field4-first.ensures.is
    c.field4-2.ensures.is c.if-name-first-2.false
