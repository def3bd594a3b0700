use Rattle.places.specs.Starts.{start_in}
use Rattle.places.proofs.row.row_start.Goals as goal

pub returns : goal.returns
unfolding start_in
returns c = c.row_places.ensures
