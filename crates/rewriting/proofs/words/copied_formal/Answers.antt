use mathlib.Core.Path.{refl}
use native.Mathlib.Omega.{arith}
use borrow.Author.Tests.{eq-eqb, ne_eqb}
use Rattle.lists.specs.Lists.{same}
use Rattle.rewriting.specs.Inner.Writing.{copied_formal_of}
use Rattle.rewriting.proofs.words.copied_formal.Goals as goal

pub returns-then-field4-eq0 : goal.returns-then-field4-eq0
unfolding copied_formal_of same
returns-then-field4-eq0 c = rw (← c.field4.ensures.is, eq-eqb _ _ c.if-field4-eq0.true) record { is = refl; small = omega arith }

pub returns : goal.returns
unfolding copied_formal_of same
returns c =
    rw (← c.field4.ensures.is, ne_eqb _ _ c.if-field4-eq0.false, ← c.field4-2.ensures.is) c.copy_name.ensures
