use Rattle.std.proofs.Common.{refl}
use Rattle.places.specs.Reaches.{common_reach}
use Rattle.places.proofs.reach.common.Goals as goal

pub returns : goal.returns
unfolding common_reach
returns c = refl
