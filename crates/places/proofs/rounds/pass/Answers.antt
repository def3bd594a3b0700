use Rattle.std.proofs.Common.{◌≡◌, ℕ, ap, ◌∙◌, subst, arith}
use Rattle.lists.specs.Lists.{word}
use Rattle.places.specs.Inner.Sets.{Grown}
use Rattle.places.proofs.Growing.{grown-none}
use Rattle.places.proofs.Passing.{passing, passing-none, pass-grown}
use Rattle.places.proofs.rounds.pass.Goals as goal

pub loop-j-init : goal.loop-j-init
loop-j-init c =
    let a = c.args in
    grown-none a.words.now (passing a.table.now a.formal a.argument 0) (passing-none a.table.now a.formal a.argument)

pub loop-j-preserved : goal.loop-j-preserved
loop-j-preserved c =
    let j = c.join-grew in
    let l = c.loop-j in
    let a = c.args in
    pass-grown a.table.now a.formal a.argument l.j c.word64-a.result a.words.now l.words j.new.words l.grew j.result
    (c.word64-a.ensures ∙ ap (word l.words) c.field1.ensures.is) l.invariant j.ensures

pub returns : goal.returns
returns c =
    let l = c.loop-j in
    let a = c.args in
    let e : l.j ≡ a.count = omega (arith, c.loop-j-test.false) in
    subst (λ (i : ℕ). Grown a.words.now l.words l.grew (passing a.table.now a.formal a.argument i)) e l.invariant
