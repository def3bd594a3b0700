use Rattle.rewriting.specs.Inner.Counting.{size_with}
use Rattle.rewriting.proofs.words.size.Goals as goal

pub returns : goal.returns
unfolding size_with
returns c = rw (← c.word.ensures.is)
