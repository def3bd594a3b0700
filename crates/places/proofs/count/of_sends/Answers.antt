use Rattle.std.proofs.Common.{◌≡◌, ◌<◌, sym, ap, ◌∙◌, subst, arith}
use Rattle.lists.specs.Lists.{range}
use Rattle.scheme.specs.Words.{branches}
use Rattle.places.specs.Answers.{sums_of}
use Rattle.places.specs.Sides.{partner_set}
use Rattle.places.specs.Inner.Counting.{Few, over, send_sums}
use Rattle.places.proofs.Adding.{send-grows, range-few, range-on, range-done}
use Rattle.places.proofs.Hearing.{send-read, set-few, set-done}
use Rattle.places.proofs.count.of_sends.Goals.{then-set-ne0, else-set-ne0}
use Rattle.places.proofs.count.of_sends.Goals as goal

pub partners-q-requires : goal.partners-q-requires
partners-q-requires c =
    let a = c.args in
    let w = a.table.now in
    let x = a.index.now in
    let l = c.loop-s in
    let u : l.s < branches w = omega (arith, c.word-branches.ensures.is, c.loop-s-test.true) in
    let e : c.word-set.result ≡ partner_set w x l.s = c.word-set.ensures.is ∙ c.requires.1.sets-are l.s u in (
      c.requires.0,
      c.requires.1,
      rw e (set-few w x l.s),
      subst Few (send-read w x c.requires.0 l.s (sums_of l.q) c.word-set.result e)
          (range-few (send_sums w) (send-grows w) (over (send_sums w) (sums_of a.t) (range (branches w))) (sums_of l.q) l.s (branches w) l.invariant u
          c.requires.2),
    )

pub loop-s-preserved : goal.loop-s-preserved
loop-s-preserved c =
    let a = c.args in
    let w = a.table.now in
    let x = a.index.now in
    let l = c.loop-s in
    let u : l.s < branches w = omega (arith, c.word-branches.ensures.is, c.loop-s-test.true) in
    let k = c.word-set.result in
    let f = send-read w x c.requires.0 l.s (sums_of l.q) k (c.word-set.ensures.is ∙ c.requires.1.sets-are l.s u) in
    range-on (send_sums w) (over (send_sums w) (sums_of a.t) (range (branches w))) (sums_of l.q) (sums_of c.if-set-ne0.q) l.s (branches w) l.invariant u
    (elim c.if-set-ne0.branch [
      | then-set-ne0 v ↦ ap sums_of v.q-is ∙ v.partners-q.ensures ∙ sym f
      | else-set-ne0 v ↦ ap sums_of v.q-is ∙ sym (f ∙ set-done w l.s (sums_of l.q) k v.if-set-ne0.false)
    ])

pub returns : goal.returns
returns c =
    let a = c.args in
    let w = a.table.now in
    let l = c.loop-s in
    sym (l.invariant ∙ range-done (send_sums w) (sums_of l.q) l.s (branches w) (omega (arith, c.word-branches.ensures.is, c.loop-s-test.false)))
