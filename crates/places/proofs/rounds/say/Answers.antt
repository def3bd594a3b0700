use Rattle.std.proofs.Common.{sym, ap, ◌∙◌}
use Rattle.lists.specs.Lists.{word}
use Rattle.scheme.specs.Scheme.{scheme}
use Rattle.places.specs.Inner.Sets.{said_at}
use Rattle.places.proofs.Growing.{grown-none}
use Rattle.places.proofs.Sending.{thread-told, said-other, say-grown}
use Rattle.places.proofs.rounds.say.Goals as goal

pub returns-then-field4-ne1 : goal.returns-then-field4-ne1
returns-then-field4-ne1 c =
    let w = c.args.table.now in
    grown-none c.args.words.now (λ R x o. said_at (scheme w) c.args.ears.now R x o c.args.s ((scheme w).branch c.args.s))
    (said-other w c.requires.0.accepted c.args.s c.requires.1 (λ q. c.if-field4-ne1.true (c.field4.ensures.is ∙ q)) c.args.ears.now)

pub returns : goal.returns
returns c =
    let w = c.args.table.now in
    let ws = c.args.words.now in
    say-grown w c.requires.0.accepted c.args.ears.now ws c.spread.new.words c.spread.result c.args.s c.word64-a.result
    c.word64-z.result c.branch_thread.result c.gather-all.result c.word64-own.result c.requires.1 (sym c.field4.ensures.is ∙ c.if-field4-ne1.false)
    (c.word64-a.ensures ∙ ap (word ws) c.field4-2.ensures.is) (c.word64-z.ensures ∙ ap (word ws) c.field4-3.ensures.is)
    (thread-told w c.requires.0.accepted c.args.index.now c.requires.0 c.args.s _ c.branch_thread.ensures.is) c.gather-all.ensures
    c.word64-own.ensures c.spread.ensures
