use Rattle.std.proofs.Common.{refl}
use Rattle.summary.specs.Sets.{has_bit}
use Rattle.lists.specs.Lists.{same}
use Rattle.summary.proofs.bits.bit_of.Goals as goal

pub returns : goal.returns
unfolding has_bit same
returns c = refl
