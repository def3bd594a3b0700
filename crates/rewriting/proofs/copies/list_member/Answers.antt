use borrow.Author.Tests.{eq-eqb, ne_eqb}
use Rattle.lists.specs.Lists.{same}
use Rattle.process.proofs.Listed.{none-listed, one-listed}
use Rattle.rewriting.proofs.copies.list_member.Goals as goal

pub returns-then-word-group : goal.returns-then-word-group
unfolding same
returns-then-word-group c =
    rw (← c.word.ensures.is, eq-eqb _ _ c.if-word-group.true) (one-listed _ _ _ _ c.store.ensures)

pub returns : goal.returns
unfolding same
returns c = rw (← c.word.ensures.is, ne_eqb _ _ c.if-word-group.false) (none-listed _ _ _)
