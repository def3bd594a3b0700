use Rattle.std.proofs.Common.{ℕ, List, length, sym, refl, ap, ◌∙◌, arith}
use lib.Seq.{sets}
use Rattle.lists.specs.Lists.{flat, keep, from}
use Rattle.lists.proofs.Tests.{same-yes, same-no}
use Rattle.scheme.specs.Words.{branch_kind}
use Rattle.places.specs.Sides.{receive_words}
use Rattle.places.proofs.Hearing.{list-more, list-skip}
use Rattle.places.proofs.count.receives.Goals.{then-field4-eq2, else-field4-eq2}
use Rattle.places.proofs.count.receives.Goals as goal

pub loop-b-init : goal.loop-b-init
unfolding keep from flat
loop-b-init c = (refl, refl, omega arith)

pub loop-b-preserved : goal.loop-b-preserved
loop-b-preserved c =
    let a = c.args in
    let w = a.table.now in
    let x = a.index.now in
    let l = c.loop-b in
    let f = c.field4.ensures.is in
    elim c.if-field4-eq2.branch [
      | then-field4-eq2 v ↦
          let (m, n) =
          list-more w x a.list.now l.list l.b l.count l.invariant.0 l.invariant.1 (same-yes (branch_kind w l.b) 2 (sym f ∙ v.if-field4-eq2.true))
          c.if-field4-eq2.list (v.list-is ∙ v.enter.ensures) in (
            v.count-is ∙ m,
            n,
            omega (arith, v.count-is, l.invariant.2),
          )
      | else-field4-eq2 v ↦
          let k = list-skip w l.b (same-no (branch_kind w l.b) 2 (λ q. v.if-field4-eq2.false (f ∙ q))) in (
            v.count-is ∙ l.invariant.0 ∙ ap (λ (xs : List ℕ). length xs) k,
            v.list-is ∙ l.invariant.1 ∙ ap (λ (xs : List ℕ). sets a.list.now 0 (flat (receive_words w x) xs)) k,
            omega (arith, v.count-is, l.invariant.2),
          )
    ]
