use borrow.Author.Tests.{eq-eqb, ne_eqb}
use Rattle.lists.specs.Lists.{same}
use Rattle.rewriting.specs.Inner.Writing.{target_in, copied_first_of}
use Rattle.rewriting.proofs.words.copied_first.Goals as goal

pub returns-then-kind-eq1 : goal.returns-then-kind-eq1
unfolding copied_first_of same
returns-then-kind-eq1 c =
    rw (← c.field3-kind.ensures.is, eq-eqb _ _ c.if-kind-eq1.true, ← c.field3.ensures.is) c.copied.ensures

pub returns-then-kind-eq2 : goal.returns-then-kind-eq2
unfolding copied_first_of same
returns-then-kind-eq2 c =
    rw (← c.field3-kind.ensures.is, ne_eqb _ _ c.if-kind-eq1.false, eq-eqb _ _ c.if-kind-eq2.true, ← c.field3-then-kind-eq2.ensures.is) c.copy_name.ensures

pub returns : goal.returns
unfolding copied_first_of target_in same
returns c =
    rw (← c.field3-kind.ensures.is, ne_eqb _ _ c.if-kind-eq1.false, ne_eqb _ _ c.if-kind-eq2.false) c.target_of.ensures
