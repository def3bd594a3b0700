use native.Mathlib.Omega.{arith}
use Rattle.std.proofs.Common.{refl, tests}
use Rattle.std.proofs.lemmas.Iterator.{YieldsList-from_range}
use Rattle.std.proofs.lemmas.Iterator.Search.{all_from_yields_List}
use Rattle.std.proofs.lemmas.Grind.{common_steps}
use Rattle.lists.proofs.Chains.{every_all, from_counted}
use Rattle.readback.proofs.names.opposite.Goals as goal

pub returns : goal.returns
returns c =
    rw (every_all, from_counted)
    (all_from_yields_List _ _ _ _ c.all.ensures.ran (YieldsList-from_range 0 c.args.count c.args.count refl (omega arith)) (λ x b q k. grind (arith, common_steps, tests)))
