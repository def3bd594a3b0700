use Rattle.std.proofs.Common.{sym, ap, ◌∙◌}
use Rattle.scheme.specs.Words.{first_formal, formal_count}
use Rattle.places.proofs.Growing.{grown-none, grown-same}
use Rattle.places.proofs.Passing.{passing, at_node, passed-call, passed-other}
use Rattle.places.proofs.rounds.call.Goals as goal

pub returns-then-field3-ne3 : goal.returns-then-field3-ne3
returns-then-field3-ne3 c =
    let w = c.args.table.now in
    grown-none c.args.words.now (at_node w c.args.n)
    (passed-other w c.args.n c.requires.1 (λ q. c.if-field3-ne3.true (c.field3.ensures.is ∙ q)))

pub returns : goal.returns
returns c =
    let w = c.args.table.now in
    let f = c.field4-formal.result in
    let a = c.field3-argument.result in
    let k = c.field4-count.result in
    grown-same c.args.words.now c.pass.new.words c.pass.result (passing w f a k) (at_node w c.args.n)
    (passed-call w c.requires.0 c.args.n c.requires.1 (sym c.field3.ensures.is ∙ c.if-field3-ne3.false) f a k
    (c.field4-formal.ensures.is ∙ ap (first_formal w) c.field3-d.ensures.is) c.field3-argument.ensures.is
    (c.field4-count.ensures.is ∙ ap (formal_count w) c.field3-d.ensures.is)) c.pass.ensures
