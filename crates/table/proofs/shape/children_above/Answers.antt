use Rattle.std.proofs.Common.{rules, tests, refl, sym, arith, ltb}
use Rattle.lists.specs.Lists.{same}
use Rattle.scheme.specs.Words.{branches_of, next}
use Rattle.table.specs.Causes.{are_children_above}
use Rattle.table.proofs.Chains.{all_in}
use Rattle.table.proofs.shape.children_above.Goals as goal

pub returns-in-Some-Choice : goal.returns-in-Some-Choice
unfolding are_children_above branches_of same
returns-in-Some-Choice c =
    let a = c.args in
    let kind = rw c.in-Some-Choice.field-0-is at c.in-Some-Choice.ensures in
    rw (kind, ← c.field3-first.ensures.is, ← c.field3-second.ensures.is)
    (sym (all_in (λ b. ltb a.node (next a.table.now b)) c.field3-first.result c.field3-second.result refl (omega arith) c.all.ensures.ran (λ x b q k. search (rules, tests))))
