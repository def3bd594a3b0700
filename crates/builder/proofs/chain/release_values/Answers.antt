use Rattle.std.proofs.Common.{Option, IfSome}
use mathlib.Core.Path.{sym, ap, subst, ◌∙◌}
use mathlib.Core.List.{List}
use Prim.Native.Nat.{ℕ, ◌+◌, ◌<◌}
use native.Mathlib.Omega.{arith}
use lib.ListN.{length}
use Rattle.builder.specs.Inner.Parts.{state}
use Rattle.builder.specs.Inner.Released.{given}
use Rattle.builder.proofs.Turns.{turns-done, turn_inside, turn_more}
use Rattle.builder.proofs.Released.{released-as, returned-as}
use Rattle.builder.proofs.chain.release_values.Goals.{in-None, in-Some, In-Some}
use Rattle.builder.proofs.chain.release_values.Goals as goal

-- where values are given back, all in 32 bits
few : (c : In-Some) → c.in-Some.first + c.args.count < 4294967296
few c =
    subst (λ (back : Option ℕ). IfSome back (λ b. b + c.args.count < 4294967296)) (sym c.loop-i.invariant.2 ∙ c.in-Some.is) c.requires.2

pub overflow_add-first : goal.overflow_add-first
overflow_add-first c = omega (arith, few (goal.at.overflow_add-first c).In-Some, c.loop-i-test.true)

pub overflow_cast-first : goal.overflow_cast-first
overflow_cast-first c = omega (arith, few (goal.at.overflow_cast-first c).In-Some, c.loop-i-test.true)

pub transition-q-requires : goal.transition-q-requires
transition-q-requires c =
    let l = c.loop-i in
    let n = c.on-after in
    let a = c.args in (
      c.requires.0.node-few,
      c.requires.0.name-few,
      omega arith,
      omega arith,
      turn_inside (given a.c a.x a.row a.back) _ (state l.out l.q) l.i a.count l.invariant.0 c.loop-i-test.true _
          (released-as a.c a.x n.result n.ensures a.row a.back l.i (sym l.invariant.2 ∙ c.in-None.is)) c.requires.3,
    )

pub transition-q-requires-in-Some : goal.transition-q-requires-in-Some
transition-q-requires-in-Some c =
    let l = c.loop-i in
    let n = c.on-after in
    let a = c.args in (
      c.requires.0.node-few,
      c.requires.0.name-few,
      omega arith,
      omega arith,
      turn_inside (given a.c a.x a.row a.back) _ (state l.out l.q) l.i a.count l.invariant.0 c.loop-i-test.true _
          (returned-as a.c a.x n.result n.ensures a.row c.in-Some.first a.back l.i (sym l.invariant.2 ∙ c.in-Some.is)) c.requires.3,
    )

pub loop-i-preserved : goal.loop-i-preserved
loop-i-preserved c =
    let l = c.loop-i in
    let n = c.on-after in
    let a = c.args in
    elim c.match-back.branch [
      | in-None w ↦ (
        turn_more (given a.c a.x a.row a.back) _ (state l.out l.q) l.i a.count l.invariant.0 c.loop-i-test.true _
            (released-as a.c a.x n.result n.ensures a.row a.back l.i (sym l.invariant.2 ∙ w.in-None.is)) _
            (rw (w.out-is, w.q-is) w.transition-q.ensures),
        ap (λ (o : List ℕ). length o) w.out-is ∙ w.transition-q.auto.out ∙ l.invariant.1,
        w.back-is ∙ l.invariant.2,
      )
      | in-Some w ↦ (
        turn_more (given a.c a.x a.row a.back) _ (state l.out l.q) l.i a.count l.invariant.0 c.loop-i-test.true _
            (returned-as a.c a.x n.result n.ensures a.row w.in-Some.first a.back l.i (sym l.invariant.2 ∙ w.in-Some.is)) _
            (rw (w.out-is, w.q-is) w.transition-q-in-Some.ensures),
        ap (λ (o : List ℕ). length o) w.out-is ∙ w.transition-q-in-Some.auto.out ∙ l.invariant.1,
        w.back-is ∙ sym w.in-Some.is ∙ l.invariant.2,
      )
    ]

pub returns : goal.returns
returns c =
    let a = c.args in
    let l = c.loop-i in
    turns-done (given a.c a.x a.row a.back) _ (state l.out l.q) l.i a.count l.invariant.0 c.loop-i-test.false
