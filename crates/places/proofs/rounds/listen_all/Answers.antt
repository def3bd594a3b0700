use Rattle.std.proofs.Common.{◌≡◌, ℕ, sym, ◌∙◌, subst, arith}
use Rattle.scheme.specs.Scheme.{scheme}
use Rattle.scheme.specs.Words.{branches}
use Rattle.places.specs.Inner.Sets.{in_set, Adds, hears_at}
use Rattle.places.proofs.Growing.{some-none, adds_none, adds-next}
use Rattle.places.proofs.Sending.{branches-are}
use Rattle.places.proofs.Settled.{heard_to, heard_all}
use Rattle.places.proofs.rounds.listen_all.Goals as goal

pub loop-r-init : goal.loop-r-init
loop-r-init c =
    let a = c.args in
    let S = scheme a.table.now in
    adds_none a.ears.now (heard_to S a.words.now 0) (λ k y. some-none (λ r. hears_at S (in_set a.words.now) k y r (S.branch r)))

pub loop-r-preserved : goal.loop-r-preserved
loop-r-preserved c =
    let l = c.loop-r in
    let a = c.args in
    let S = scheme a.table.now in
    adds-next a.ears.now l.ears c.listen.new.ears (λ r k y. hears_at S (in_set a.words.now) k y r (S.branch r))
    l.r l.invariant c.listen.ensures

pub returns : goal.returns
returns c =
    let l = c.loop-r in
    let a = c.args in
    let S = scheme a.table.now in
    let e : l.r ≡ branches a.table.now = omega (arith, c.loop-r-test.false, c.word-branches.ensures.is) in
    heard_all S a.words.now a.ears.now l.ears c.requires.1
    (subst (λ (i : ℕ). Adds a.ears.now l.ears (heard_to S a.words.now i)) (e ∙ sym (branches-are a.table.now c.requires.0.accepted)) l.invariant)
