use Rattle.std.proofs.Common.{rules, tests, map, sym, ◌∙◌, arith}
use Rattle.std.proofs.lemmas.Iterator.{YieldsList-from_range, YieldsList-from_map}
use Rattle.std.proofs.lemmas.Iterator.Consumers.{sum_from_yields_List}
use Rattle.std.proofs.lemmas.Iterator.Adapters.{fits_from_length, at_most_from_yields_List}
use Rattle.std.proofs.lemmas.List.FromFn.{length-range_with_len}
use Rattle.std.specs.List.{range_with_len}
use Rattle.lists.specs.Lists.{word}
use Rattle.lists.proofs.Chains.{from_counted}
use Rattle.places.proofs.Chains.{total_sum}
use Rattle.places.proofs.privates.sum.Goals as goal

pub sum-requires-clause-fits : goal.sum-requires-clause-fits
sum-requires-clause-fits c =
    fits_from_length _ _ 8 _ (at_most_from_yields_List (YieldsList-from_range 0 c.args.count c.args.count c.map.ensures.source (omega arith)) (omega (arith, c.requires, length-range_with_len 0 c.args.count)))
    c.map.ensures.closure (omega arith) (λ x r q k. search (rules, tests))

pub returns : goal.returns
returns c =
    let s = sum_from_yields_List c.map.result c.sum.result c.sum.ensures.ran (YieldsList-from_map _ (word c.args.words.now) (YieldsList-from_range 0 c.args.count c.args.count c.map.ensures.source (omega arith)) c.map.ensures.closure (λ x r q k. search (rules, tests))) in
    s ∙ sym (rw (from_counted 0 c.args.count) (total_sum (map (word c.args.words.now) (range_with_len 0 c.args.count))))
