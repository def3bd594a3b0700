use Rattle.std.proofs.Common.{ℕ, ◌&&◌, ◌||◌, false, sym, subst, arith}
use Rattle.lists.specs.Lists.{same}
use Rattle.places.specs.Sets.{bit_at}
use Rattle.places.specs.Inner.Sets.{Joined}
use Rattle.places.specs.declared.sets.Bits.{Bits}
use Rattle.places.proofs.Scanning.{Spreading, spread-start, spread-next, spread_end}
use Rattle.places.proofs.rounds.spread.Goals as goal

pub loop-x-init : goal.loop-x-init
loop-x-init c =
    let a = c.args in
    subst (λ (b : Bits). Spreading a.set a.a a.words.now a.words.now false b.0) (sym c.into_iter-x-iterator.ensures.into_iter_gives)
    (spread-start a.set a.a a.words.now (omega (arith, c.ranges)))

pub loop-x-preserved : goal.loop-x-preserved
loop-x-preserved c =
    let j = c.join-grew in
    let l = c.loop-x in
    let a = c.args in
    let s = c.in-Some.ensures.steps in
    subst (λ (left : ℕ). Spreading a.set a.a a.words.now j.new.words (l.grew || j.result) left) (sym s.2)
    (spread-next a.set a.a a.words.now l.words j.new.words l.grew j.result l.x-iterator.0 s.0 l.invariant
    (subst (λ (x : ℕ). Joined l.words j.new.words j.result (λ y o. same x y && bit_at a.a o)) s.1 j.ensures))

pub returns : goal.returns
returns c =
    let l = c.loop-x in
    let a = c.args in
    spread_end a.set a.a a.words.now l.words l.grew l.x-iterator.0 c.in-None.ensures.steps l.invariant
