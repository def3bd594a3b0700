use Rattle.rewriting.specs.Rewriting.{node_copy}
use Rattle.rewriting.specs.Inner.Writing.{copied_first_of, copied_second_of}
use Rattle.rewriting.proofs.words.write_copied_node.Goals as goal

pub returns : goal.returns
unfolding node_copy copied_first_of copied_second_of
returns c =
    rw (← c.copied_first-first.ensures.is, ← c.copied_second-second.ensures.is, ← c.field3.ensures.is) c.write_all.ensures
