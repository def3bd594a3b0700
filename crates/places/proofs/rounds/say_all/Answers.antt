use Rattle.std.proofs.Common.{◌≡◌, arith}
use Rattle.lists.specs.Lists.{range, some}
use Rattle.scheme.specs.Words.{branches}
use Rattle.scheme.specs.Scheme.{scheme}
use Rattle.places.specs.Inner.Sets.{said_at}
use Rattle.places.proofs.Growing.{some-none, grown-none, grown-next}
use Rattle.places.proofs.Sending.{all_said}
use Rattle.places.proofs.rounds.say_all.Goals as goal

pub loop-s-init : goal.loop-s-init
loop-s-init c =
    let a = c.args in
    let S = scheme a.table.now in
    grown-none a.words.now (λ R x o. some (λ s. said_at S a.ears.now R x o s (S.branch s)) (range 0))
    (λ R x o. some-none (λ s. said_at S a.ears.now R x o s (S.branch s)))

pub loop-s-preserved : goal.loop-s-preserved
loop-s-preserved c =
    let j = c.say-grew in
    let l = c.loop-s in
    let a = c.args in
    let S = scheme a.table.now in
    grown-next a.words.now l.words j.new.words l.grew j.result (λ s R x o. said_at S a.ears.now R x o s (S.branch s)) l.s
    l.invariant j.ensures

pub returns : goal.returns
returns c =
    let l = c.loop-s in
    let a = c.args in
    let e : l.s ≡ branches a.table.now = omega (arith, c.loop-s-test.false, c.word-branches.ensures.is) in
    all_said a.table.now c.requires.accepted a.ears.now a.words.now l.words l.grew l.s e l.invariant
