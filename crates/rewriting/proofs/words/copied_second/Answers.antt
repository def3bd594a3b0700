use borrow.Author.Tests.{eq-eqb, ne_eqb}
use Rattle.lists.specs.Lists.{same}
use Rattle.rewriting.specs.Inner.Writing.{copied_second_of}
use Rattle.rewriting.proofs.words.copied_second.Goals as goal

pub returns-then-field3-eq2 : goal.returns-then-field3-eq2
unfolding copied_second_of same
returns-then-field3-eq2 c =
    rw (← c.field3.ensures.is, eq-eqb _ _ c.if-field3-eq2.true, ← c.field3-second.ensures.is) c.copied.ensures

pub returns-then-span_count-eq0 : goal.returns-then-span_count-eq0
unfolding copied_second_of same
returns-then-span_count-eq0 c =
    let f = c.field3-second.ensures in
    rw (← c.span_count.ensures.is, ← c.field3.ensures.is, ne_eqb _ _ c.if-field3-eq2.false, eq-eqb _ _ c.if-span_count-eq0.true)
    record { is = f.is; small = f.small }

pub returns : goal.returns
unfolding copied_second_of same
returns c =
    rw (
      ← c.span_count.ensures.is,
      ← c.field3.ensures.is,
      ne_eqb _ _ c.if-field3-eq2.false,
      ne_eqb _ _ c.if-span_count-eq0.false,
      ← c.field3-second.ensures.is,
    ) c.copied-2.ensures
