use mathlib.Core.Path.{sym, ◌∙◌}
use Rattle.process.proofs.Taking.{silent-ends, silent-keeps}
use Rattle.process.proofs.next.value_after_silent.Goals as goal

pub returns-then-ends : goal.returns-then-ends
returns-then-ends c =
    silent-ends _ _ _ _ _ _ c.requires c.branch_thread-thread.ensures.is c.field4.ensures.is (sym c.ends.ensures ∙ c.if-ends.true)

pub returns : goal.returns
returns c =
    silent-keeps _ _ _ _ _ _ c.requires c.branch_thread-thread.ensures.is c.field4.ensures.is _
    (sym c.ends.ensures ∙ c.if-ends.false) c.value_of.ensures
