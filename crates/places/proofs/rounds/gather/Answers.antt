use Rattle.std.proofs.Common.{ℕ, bit_or, sym, ap, ◌∙◌, subst, arith}
use Rattle.lists.specs.Lists.{word}
use Rattle.places.specs.declared.sets.Bits.{Bits}
use Rattle.places.proofs.Scanning.{Gathering, gather-start, gather-next, gather-end}
use Rattle.places.proofs.rounds.gather.Goals as goal

pub loop-x-init : goal.loop-x-init
loop-x-init c =
    let a = c.args in
    subst (λ (b : Bits). Gathering a.words.now a.set 0 b.0) (sym c.into_iter-x-iterator.ensures.into_iter_gives)
    (gather-start a.words.now a.set (omega (arith, c.ranges)))

pub loop-x-preserved : goal.loop-x-preserved
loop-x-preserved c =
    let l = c.loop-x in
    let a = c.args in
    let s = c.in-Some.ensures.steps in
    let v = c.word64-all in
    subst (λ (left : ℕ). Gathering a.words.now a.set (bit_or l.all v.result) left) (sym s.2)
    (gather-next a.words.now a.set l.all l.x-iterator.0 v.result s.0 (v.ensures ∙ ap (word a.words.now) s.1) l.invariant)

pub returns : goal.returns
returns c =
    let l = c.loop-x in
    let a = c.args in
    gather-end a.words.now a.set l.all l.x-iterator.0 c.in-None.ensures.steps l.invariant
