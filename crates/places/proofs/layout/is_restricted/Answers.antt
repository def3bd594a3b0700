use Rattle.std.proofs.Common.{ℕ, ◌+◌, ◌-◌, sym, ap, ◌∙◌, arith, ltb-true, ltb-false, leb-true}
use Rattle.lists.specs.Lists.{word}
use Rattle.places.proofs.Names.{public-free, past-free, kind-tells}
use Rattle.places.proofs.layout.is_restricted.Goals.{then-publics-name, else-publics-name}
use Rattle.places.proofs.layout.is_restricted.Goals as goal

pub returns-then-name-publics : goal.returns-then-name-publics
returns-then-name-publics c =
    let a = c.args in
    let w = a.table.now in
    let p = c.word-publics.ensures.is in
    let k = c.field1.ensures.is ∙ ap (λ (k : ℕ). word w (word w 7 + (a.name - k))) p in
    elim c.if-publics-name.branch [
      | then-publics-name v ↦ kind-tells w a.name c.field1.result (omega (arith, p, v.if-publics-name.true)) (omega (arith, p, v.word.ensures.is, ltb-true _ _ (sym v.value-is ∙ c.if-name-publics.true))) k
      | else-publics-name v ↦ absurd (omega (arith, v.if-publics-name.false, leb-true _ _ (sym v.value-is ∙ c.if-name-publics.true)))
    ]

pub returns-else-name-publics : goal.returns-else-name-publics
returns-else-name-publics c =
    let w = c.args.table.now in
    let p = c.word-publics.ensures.is in
    elim c.if-publics-name.branch [
      | then-publics-name v ↦ c.if-name-publics.false ∙ sym (past-free w c.args.name (omega (arith, p, v.word.ensures.is, ltb-false _ _ (sym v.value-is ∙ c.if-name-publics.false))))
      | else-publics-name v ↦ c.if-name-publics.false ∙ sym (public-free w c.args.name (omega (arith, p, v.if-publics-name.false)))
    ]
