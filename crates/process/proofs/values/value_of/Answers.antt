use mathlib.Core.Path.{◌∙◌}
use native.Mathlib.Omega.{arith}
use Rattle.process.proofs.NameValues.{value-public, value-bound, value-outside}
use Rattle.process.proofs.values.value_of.Goals as goal

pub returns-then-name-publics : goal.returns-then-name-publics
returns-then-name-publics c = value-public _ _ _ (omega (arith, c.word-publics.ensures.is)) (omega (arith, c.word-publics.ensures.is, c.word-publics.ensures.small))

pub returns-then-name-publics-2 : goal.returns-then-name-publics-2
returns-then-name-publics-2 c =
    let a = c.args in
    value-bound a.table.now a.state.now a.name c.word-then-name-publics-2-2.result (omega (arith, c.word-publics.ensures.is, c.if-name-publics.false))
    (omega (arith, c.word-publics.ensures.is, c.word.ensures.is, c.if-name-publics-2.true)) (c.word-then-name-publics-2-2.ensures.is ∙ rw (c.word-then-name-publics-2.ensures.is, c.word-publics.ensures.is)) c.word-then-name-publics-2-2.ensures.small

pub returns : goal.returns
returns c =
    let a = c.args in
    value-outside a.table.now a.state.now a.name (omega (arith, c.word-publics.ensures.is, c.if-name-publics.false)) (omega (arith, c.word-publics.ensures.is, c.word.ensures.is, c.if-name-publics-2.false))
