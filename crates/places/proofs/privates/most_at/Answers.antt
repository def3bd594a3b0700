use Rattle.std.proofs.Common.{sym, ap, ◌∙◌, arith}
use Rattle.scheme.specs.Words.{formal_count}
use Rattle.places.proofs.Holding.{most-call, most_other}
use Rattle.places.proofs.privates.most_at.Goals as goal

pub returns-then-kind-eq3 : goal.returns-then-kind-eq3
returns-then-kind-eq3 c =
    let a = c.args in
    most-call a.table.now c.requires.0 a.node c.requires.1 a.held c.requires.2 _ (sym c.field3-kind.ensures.is ∙ c.if-kind-eq3.true)
    (c.field4.ensures.is ∙ ap (formal_count a.table.now) c.field3.ensures.is)

pub returns : goal.returns
returns c =
    let a = c.args in
    most_other a.table.now c.requires.0 a.node c.requires.1 a.held c.requires.2 (λ e. c.if-kind-eq3.false (c.field3-kind.ensures.is ∙ e))

pub overflow_add-result : goal.overflow_add-result
overflow_add-result c =
    let a = c.args in
    let r =
    most-call a.table.now c.requires.0 a.node c.requires.1 a.held c.requires.2 _ (sym c.field3-kind.ensures.is ∙ c.if-kind-eq3.true)
    (c.field4.ensures.is ∙ ap (formal_count a.table.now) c.field3.ensures.is) in
    omega (arith, r.1)
