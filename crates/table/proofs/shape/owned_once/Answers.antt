use Rattle.std.proofs.Common.{rules, tests, refl, arith}
use Rattle.lists.specs.Lists.{same, word}
use Rattle.scheme.specs.Words.{nodes}
use Rattle.table.proofs.Chains.{all_in}
use Rattle.table.proofs.Parts.{owned-counts}
use Rattle.table.proofs.shape.owned_once.Goals as goal

pub returns : goal.returns
unfolding same
returns c =
    owned-counts _ _ _ _ _ _ _ _ c.word.ensures.is c.word-nodes.ensures.is c.word-2.ensures.is c.requires c.tally_source.ensures
    c.tally_source-2.ensures c.tally_source-3.ensures
    (all_in (λ k. same (word c.tally_source-3.new.counts k) 1) 0 (nodes c.args.table.now) refl (omega arith) c.all.ensures.ran (λ x b q k. search (rules, tests)))
