use Rattle.table.proofs.Bodies.{root-tally}
use Rattle.table.proofs.scope.definition_scoped.Goals as goal

pub node_scoped-requires : goal.node_scoped-requires
node_scoped-requires c = (c.requires.0, rw c.field4-2.ensures.is (c.requires.0.root-inside _ c.requires.1), rw c.field4-2.ensures.is (root-tally _ c.requires.0 _ _ _ _ _ _ c.requires.1 c.word.ensures.is c.field4-first.ensures.is c.field4.ensures.is c.tally_span.ensures c.tally_span-2.ensures))
