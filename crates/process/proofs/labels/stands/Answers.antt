use Rattle.process.specs.StateWords.{state_of}
use Rattle.lists.specs.Lists.{same}
use Rattle.process.proofs.labels.stands.Goals as goal

pub returns : goal.returns
unfolding state_of same
returns c = rw (← c.node_thread-thread.ensures.is, ← c.word.ensures.is)
