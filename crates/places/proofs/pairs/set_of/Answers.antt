use Rattle.std.proofs.Common.{sym, ◌∙◌, arith}
use Rattle.places.proofs.Hearing.{set-not}
use Rattle.places.proofs.Noting.{set-gathered}
use Rattle.places.proofs.pairs.set_of.Goals as goal

pub returns-then-field4-ne1 : goal.returns-then-field4-ne1
returns-then-field4-ne1 c =
    let a = c.args in
    set-not a.table.now a.index.now a.b (λ q. c.if-field4-ne1.true (c.field4.ensures.is ∙ q))

pub returns : goal.returns
returns c =
    let a = c.args in
    set-gathered a.table.now a.index.now c.requires.0 a.words.now c.requires.1 a.b (sym c.field4.ensures.is ∙ c.if-field4-ne1.false)
    c.values_of-values.result c.gather-all.result c.branch_thread.result c.word64-own.result
    (c.values_of-values.ensures ∙ rw (c.restricted_word.ensures.is, c.public_word.ensures.is, c.field4-a.ensures.is)) c.gather-all.ensures
    (omega (arith, c.gather-all.type_inv)) c.branch_thread.ensures.is c.word64-own.ensures
