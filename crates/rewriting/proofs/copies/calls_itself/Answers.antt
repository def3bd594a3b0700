use borrow.Author.Tests.{eq-eqb, ne_eqb}
use Rattle.lists.specs.Lists.{same}
use Rattle.rewriting.specs.Inner.Copying.{self_call}
use Rattle.rewriting.proofs.copies.calls_itself.Goals as goal

pub returns-then-field3-eq3 : goal.returns-then-field3-eq3
unfolding self_call same
returns-then-field3-eq3 c =
    rw (← c.field3.ensures.is, eq-eqb _ _ c.if-field3-eq3.true, ← c.field3-then-field3-eq3.ensures.is, ← c.definition.ensures.is)

pub returns-else-field3-eq3 : goal.returns-else-field3-eq3
unfolding self_call same
returns-else-field3-eq3 c = rw (← c.field3.ensures.is, ne_eqb _ _ c.if-field3-eq3.false)
