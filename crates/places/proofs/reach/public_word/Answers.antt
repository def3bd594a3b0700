use Rattle.places.specs.Plan.{publics_in}
use Rattle.places.proofs.reach.public_word.Goals as goal

pub returns : goal.returns
unfolding publics_in
returns c = c.part.ensures
