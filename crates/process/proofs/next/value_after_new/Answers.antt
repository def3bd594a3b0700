use mathlib.Core.Path.{sym, ◌∙◌}
use Rattle.process.proofs.Taking.{new-ends, new-takes, new-keeps}
use Rattle.process.proofs.next.value_after_new.Goals as goal

pub returns-then-ends : goal.returns-then-ends
returns-then-ends c =
    new-ends _ _ _ _ _ _ c.requires c.node_thread-thread.ensures.is c.field3.ensures.is (sym c.ends.ensures ∙ c.if-ends.true)

pub returns-then-name-field3 : goal.returns-then-name-field3
returns-then-name-field3 c =
    new-takes _ _ _ _ _ _ c.requires c.node_thread-thread.ensures.is c.field3.ensures.is c.args.known.now.known.accepted _ _ (sym c.ends.ensures ∙ c.if-ends.false)
    c.field3-2.ensures.is c.if-name-field3.true (rw (c.word.ensures.is, c.word-then-name-field3.ensures.is))

pub returns : goal.returns
returns c =
    new-keeps _ _ _ _ _ _ c.requires c.node_thread-thread.ensures.is c.field3.ensures.is _ _ (sym c.ends.ensures ∙ c.if-ends.false)
    c.field3-2.ensures.is c.if-name-field3.false c.value_of.ensures
