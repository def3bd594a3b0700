use native.Mathlib.Omega.{arith}
use Rattle.std.proofs.Common.{rules, refl, tests}
use Rattle.std.proofs.lemmas.Iterator.{YieldsList-from_range}
use Rattle.std.proofs.lemmas.Iterator.Search.{all_from_yields_List}
use Rattle.lists.proofs.Chains.{every_all, from_counted}
use Rattle.process.proofs.formed.nodes_right.Goals as goal

pub returns : goal.returns
returns c =
    rw (every_all, from_counted, ← c.word-threads.ensures.is)
    (all_from_yields_List _ _ _ _ c.all.ensures.ran (YieldsList-from_range 0 c.word-threads.result c.word-threads.result refl (omega arith)) (λ x b q k. search (rules, tests)))
