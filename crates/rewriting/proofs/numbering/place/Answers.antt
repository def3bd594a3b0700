use borrow.Author.Tests.{lt-ltb, le-ltb}
use Rattle.rewriting.specs.Inner.Placing.{place_found_at}
use Rattle.rewriting.proofs.numbering.place.Goals as goal

pub returns-then-i-lt256 : goal.returns-then-i-lt256
unfolding place_found_at
returns-then-i-lt256 c = (rw (← c.start-at.ensures, lt-ltb _ _ c.if-i-lt256.true) c.word.ensures.is, c.word.ensures.small)

pub returns : goal.returns
unfolding place_found_at
returns c = (rw (← c.start-at.ensures, le-ltb _ _ c.if-i-lt256.false) c.word-2.ensures.is, c.word-2.ensures.small)
