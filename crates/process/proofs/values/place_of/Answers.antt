use mathlib.Core.Path.{◌∙◌}
use lib.Dec.{eqb}
use lib.ListN.{take}
use Rattle.std.proofs.Common.{length-take-le, rules, tests}
use Rattle.std.proofs.lemmas.Iterator.{YieldsList-from_slice}
use Rattle.std.proofs.lemmas.Iterator.Search.{position_from_yields_List}
use Rattle.std.proofs.lemmas.Iterator.Adapters.{position_from-zero}
use Rattle.process.proofs.Numbering.{place_first}
use Rattle.process.proofs.values.place_of.Goals as goal

pub returns : goal.returns
returns c =
    let a = c.args in
    c.unwrap_or.ensures
    ∙ rw (position_from_yields_List {all = take a.count a.seen.now} (λ u. eqb u a.value) _ _ c.position-place.result c.position-place.ensures.ran (YieldsList-from_slice _ (cc)) (λ x b q k. search (rules, tests)), position_from-zero)
    (place_first a.value _ a.count (length-take-le _ _ c.requires))
