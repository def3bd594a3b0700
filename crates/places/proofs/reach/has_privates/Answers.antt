use Rattle.std.proofs.Common.{refl}
use Rattle.lists.specs.Lists.{same}
use Rattle.places.proofs.reach.has_privates.Goals as goal

pub returns : goal.returns
unfolding same
returns c = refl
