use native.Mathlib.Omega.{arith}
use Rattle.lists.specs.Lists.{same}
use Rattle.std.proofs.Common.{rules, refl, tests}
use Rattle.std.proofs.lemmas.Iterator.{YieldsList-from_range}
use Rattle.std.proofs.lemmas.Iterator.Search.{all_from_yields_List}
use Rattle.lists.proofs.Chains.{every_all, from_counted}
use Rattle.readback.proofs.spots.one_each.Goals as goal

pub returns : goal.returns
unfolding same
returns c =
    rw (every_all, from_counted)
    (all_from_yields_List _ _ _ _ c.all.ensures.ran (YieldsList-from_range 0 c.args.threads c.args.threads refl (omega arith)) (λ x b q k. search (rules, tests)))
