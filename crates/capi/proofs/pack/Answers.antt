use mathlib.Core.Path.{refl}
use Rattle.capi.specs.Returned.{packed}
use Rattle.capi.proofs.pack.Goals as goal

pub returns : goal.returns
unfolding packed
returns c = refl
