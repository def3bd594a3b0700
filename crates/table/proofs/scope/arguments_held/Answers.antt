use Rattle.std.proofs.Common.{rules, tests, refl, sym, ◌∙◌, ◌-◌, not, arith}
use Rattle.lists.specs.Lists.{same, word, from}
use Rattle.lists.proofs.Ranges.{every-same, from_member}
use Rattle.scheme.specs.Words.{argument}
use Rattle.table.specs.Causes.{usable}
use Rattle.table.proofs.Bodies.{held_some}
use Rattle.table.proofs.Chains.{all_in}
use Rattle.table.proofs.scope.arguments_held.Goals as goal

pub returns : goal.returns
unfolding same
returns c =
    let a = c.args in
    let w = a.table.now in
    sym (all_in (λ x. not (same (word a.held.now (argument w x)) 0)) a.first (a.end - a.first) refl refl c.all.ensures.ran (λ x b q k. search (rules, tests))) ∙
    every-same (λ x. not (same (word a.held.now (argument w x)) 0)) (λ x. usable w a.node (argument w x)) (from a.first (a.end - a.first))
    (λ x m.
    let i = from_member x a.first (a.end - a.first) m in
    rw c.requires.0 (held_some w a.node (argument w x) (c.requires.1 x (omega (arith, i)) (omega (arith, i)))))
