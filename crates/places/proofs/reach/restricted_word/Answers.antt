use Rattle.places.specs.Plan.{restricted_in}
use Rattle.places.proofs.reach.restricted_word.Goals as goal

pub returns : goal.returns
unfolding restricted_in
returns c = c.part.ensures
