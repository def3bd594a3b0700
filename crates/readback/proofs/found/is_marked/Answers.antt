use Rattle.lists.specs.Lists.{same}
use Rattle.readback.proofs.found.is_marked.Goals as goal

pub returns : goal.returns
unfolding same
returns c = rw (← c.word.ensures.is)
