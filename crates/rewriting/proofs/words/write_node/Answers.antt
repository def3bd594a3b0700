use Rattle.rewriting.specs.Rewriting.{node_words}
use Rattle.rewriting.specs.Inner.Writing.{target_in}
use Rattle.scheme.specs.Index.{definitions_in}
use Rattle.rewriting.proofs.Laws.Belongs.{bodies}
use Rattle.rewriting.proofs.Laws.Marks.{self-call}
use Rattle.rewriting.proofs.words.write_node.Goals as goal

pub returns : goal.returns
unfolding node_words target_in
returns c =
    rw (
      ← self-call c.args.table.now (definitions_in c.args.index.now) (bodies _ _ c.requires.0.spared) c.args.node c.requires.1,
      ← c.target_of-first.ensures.is,
      ← c.field3-kind.ensures.is,
      ← c.field3.ensures.is,
    ) c.write_all.ensures
