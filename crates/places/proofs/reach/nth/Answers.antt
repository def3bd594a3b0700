use Rattle.std.proofs.Common.{◌≡◌, rules, tests, refl, ◌∙◌, arith}
use Rattle.std.proofs.lemmas.Iterator.{YieldsList-from_range}
use Rattle.std.proofs.lemmas.Iterator.Consumers.{nth_from_yields_List, YieldsList-from_filter}
use Rattle.lists.specs.Lists.{word, keep, range}
use Rattle.places.specs.Sets.{bit_at}
use Rattle.places.proofs.Chains.{kept_nth, word-below}
use Rattle.places.proofs.reach.nth.Goals as goal

pub returns : goal.returns
returns c =
    let p = bit_at c.args.set in
    let k = c.args.k in
    let n =
    nth_from_yields_List c.nth.result c.nth.new.self k c.nth.ensures.ran
    (YieldsList-from_filter _ p (YieldsList-from_range 0 64 64 c.filter.ensures.source refl) c.filter.ensures.closure (λ x b q k. search (rules, tests))) in
    let e : c.unwrap_or.result ≡ word (keep p (range 64)) k = c.unwrap_or.ensures ∙ kept_nth p 0 64 k c.nth.result n in
    (e, omega (arith, e, word-below p 64 0 64 k (omega arith) (omega arith)))
