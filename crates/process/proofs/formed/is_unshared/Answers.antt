use native.Mathlib.Omega.{arith}
use Rattle.std.proofs.Common.{◌+◌, rules, refl, tests}
use Rattle.std.proofs.lemmas.Iterator.{YieldsList-from_range}
use Rattle.std.proofs.lemmas.Iterator.Search.{all_from_yields_List}
use Rattle.lists.proofs.Chains.{every_all, from_counted}
use Rattle.process.proofs.formed.is_unshared.Goals as goal

pub returns : goal.returns
returns c =
    rw (every_all, from_counted, ← c.word-first.ensures.is, ← c.word.ensures.is)
    (all_from_yields_List _ _ _ _ c.all.ensures.ran (YieldsList-from_range c.word-first.result (c.word-first.result + c.word.result) c.word.result refl (omega arith)) (λ x b q k. search (rules, tests)))
