use Rattle.std.proofs.Common.{◌≡◌, sym, ◌∙◌, arith}
use Rattle.lists.specs.Lists.{range, some}
use Rattle.scheme.specs.Words.{nodes}
use Rattle.scheme.specs.Scheme.{scheme}
use Rattle.places.specs.Reach.{is_passed}
use Rattle.places.proofs.Growing.{some-none, grown-none, grown-next}
use Rattle.places.proofs.Passing.{at_node, none_passed, all-passed}
use Rattle.places.proofs.rounds.call_all.Goals as goal

pub returns-then-word-eq0 : goal.returns-then-word-eq0
returns-then-word-eq0 c =
    let w = c.args.table.now in
    grown-none c.args.words.now (is_passed (scheme w)) (none_passed w c.requires (sym c.word.ensures.is ∙ c.if-word-eq0.true))

pub loop-n-init : goal.loop-n-init
loop-n-init c =
    let a = c.args in
    let w = a.table.now in
    grown-none a.words.now (λ R x o. some (λ k. at_node w k R x o) (range 0)) (λ R x o. some-none (λ k. at_node w k R x o))

pub loop-n-preserved : goal.loop-n-preserved
loop-n-preserved c =
    let j = c.call-grew in
    let l = c.loop-n in
    let a = c.args in
    grown-next a.words.now l.words j.new.words l.grew j.result (λ k R x o. at_node a.table.now k R x o) l.n l.invariant j.ensures

pub returns : goal.returns
returns c =
    let l = c.loop-n in
    let a = c.args in
    let e : l.n ≡ nodes a.table.now = omega (arith, c.loop-n-test.false, c.word-nodes.ensures.is) in
    all-passed a.table.now a.words.now l.words l.grew l.n e l.invariant
