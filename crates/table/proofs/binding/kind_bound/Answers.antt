use Rattle.std.proofs.Common.{rules, tests, arith}
use Rattle.lists.specs.Lists.{same, word, bit}
use Rattle.scheme.specs.Words.{publics, bounds, name_kind_of}
use Rattle.table.proofs.Chains.{all_in}
use Rattle.table.proofs.Parts.{bound-counts}
use Rattle.table.proofs.binding.kind_bound.Goals as goal

pub returns : goal.returns
unfolding same
returns c =
    let a = c.args in
    let w = a.table.now in
    bound-counts w _ a.source _ a.kind _ c.requires c.tally_source.ensures
    (all_in (λ x. same (word c.tally_source.new.counts x) (bit (same (name_kind_of w x) a.kind))) (publics w) (bounds w) c.word-publics.ensures.is
    (omega arith) c.all.ensures.ran (λ x b q k. search (rules, tests)))
