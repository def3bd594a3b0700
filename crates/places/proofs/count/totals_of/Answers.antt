use Rattle.places.specs.Answers.{sums_of}
use Rattle.places.proofs.NodeCounts.{nodes-few, sends-few, all-added}
use Rattle.places.proofs.count.totals_of.Goals as goal

pub of_nodes-t-requires : goal.of_nodes-t-requires
of_nodes-t-requires c = (c.requires.0, nodes-few c.args.table.now c.requires.2)

pub of_sends-requires : goal.of_sends-requires
of_sends-requires c =
    (c.requires.0, c.requires.1, sends-few c.args.table.now (sums_of c.of_nodes-t.result) c.of_nodes-t.ensures c.requires.2)

pub returns : goal.returns
returns c =
    all-added c.args.table.now (sums_of c.of_nodes-t.result) (sums_of c.of_sends.result) c.of_nodes-t.ensures c.of_sends.ensures
