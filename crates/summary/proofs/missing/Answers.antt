use Rattle.std.proofs.Common.{ℕ, ◌%◌, ◌<◌, not, length, get_or, arith, rules, tests}
use Rattle.std.proofs.iter.Serving.{serving}
use Rattle.std.proofs.lemmas.Iterator.{YieldsList-from_slice}
use Rattle.std.proofs.lemmas.Iterator.Consumers.{YieldsList-from_filter, count_from_yields_List}
use Rattle.lists.specs.Lists.{same, word}
use Rattle.net.proofs.Marks.{each_below}
use Rattle.summary.specs.Inner.Marks.{missing_in}
use Rattle.summary.proofs.Entries.{keep_filter}
use Rattle.summary.proofs.missing.Goals as goal

pub count-requires-clause-can : goal.count-requires-clause-can
count-requires-clause-can c =
    let below : (k d : ℕ) → k < length c.iter.result.rest.now → get_or c.iter.result.rest.now k d < length c.args.bytes.now = each_below _ _ _ c.requires.0 c.iter.ensures.rest in
    (tt, tt, grind (arith, serving, below))

pub returns : goal.returns
unfolding missing_in same
returns c =
    rw (keep_filter (λ place. not (same (word c.args.bytes.now place % 2) 1)) c.args.places.now)
    (count_from_yields_List _ _ c.count.ensures.ran (YieldsList-from_filter _ (λ place. not (same (word c.args.bytes.now place % 2) 1))
    (YieldsList-from_slice c.args.places.now cc) c.filter.ensures.closure (λ x b q k. search (rules, tests))))
