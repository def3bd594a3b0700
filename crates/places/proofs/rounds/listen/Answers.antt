use Rattle.std.proofs.Common.{◌^◌, sym, ap, ◌∙◌, arith}
use Rattle.lists.specs.Lists.{word}
use Rattle.scheme.specs.Scheme.{scheme}
use Rattle.places.specs.Inner.Sets.{in_set, hears_at}
use Rattle.places.proofs.Bits.{one_shifted}
use Rattle.places.proofs.Growing.{adds_none}
use Rattle.places.proofs.Sending.{thread-told, name-small, hears-other, listen-adds}
use Rattle.places.proofs.rounds.listen.Goals as goal

pub returns-then-field4-ne2 : goal.returns-then-field4-ne2
returns-then-field4-ne2 c =
    let w = c.args.table.now in
    adds_none c.args.ears.now (λ k y. hears_at (scheme w) (in_set c.args.words.now) k y c.args.r ((scheme w).branch c.args.r))
    (hears-other w c.requires.0.accepted c.args.r c.requires.1 (λ q. c.if-field4-ne2.true (c.field4.ensures.is ∙ q)) (in_set c.args.words.now))

pub overflow_shl-y : goal.overflow_shl-y
overflow_shl-y c =
    omega (
      arith,
      c.field4-3.ensures.is,
      name-small c.args.table.now c.requires.0.accepted c.args.r c.requires.1 (sym c.field4.ensures.is ∙ c.if-field4-ne2.false),
    )

pub returns : goal.returns
returns c =
    let w = c.args.table.now in
    let q = sym c.field4.ensures.is ∙ c.if-field4-ne2.false in
    let n = name-small w c.requires.0.accepted c.args.r c.requires.1 q in
    listen-adds w c.requires.0.accepted c.args.words.now c.args.ears.now c.spread.new.words c.join.new.words
    c.spread.result c.join.result c.args.r c.word64-e.result c.branch_thread.result _ c.requires.1 q
    (c.word64-e.ensures ∙ ap (word c.args.words.now) c.field4-2.ensures.is)
    (thread-told w c.requires.0.accepted c.args.index.now c.requires.0 c.args.r _ c.branch_thread.ensures.is)
    (one_shifted c.field4-3.result (omega (arith, c.field4-3.ensures.is, n)) ∙ ap (◌^◌ 2) c.field4-3.ensures.is) c.spread.ensures
    c.join.ensures
