use Rattle.places.specs.Plan.{nodes_in}
use Rattle.places.proofs.lookup.node_start.Goals as goal

pub returns : goal.returns
unfolding nodes_in
returns c = c.part.ensures
