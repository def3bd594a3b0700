use Rattle.std.proofs.Common.{refl, rules, tests}
use Rattle.std.proofs.lemmas.Iterator.{YieldsList-from_range}
use Rattle.std.proofs.lemmas.Iterator.Search.{all_from_yields_List}
use Rattle.lists.proofs.Chains.{every_all, from_counted}
use Rattle.summary.proofs.none_from.Goals as goal

pub returns : goal.returns
returns c = rw (every_all, from_counted) (all_from_yields_List _ _ _ _ c.all.ensures.ran (YieldsList-from_range c.args.first _ _ refl refl) (λ x b q k. search (rules, tests)))
