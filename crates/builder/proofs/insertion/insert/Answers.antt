use mathlib.Core.List.{List}
use mathlib.Core.Path.{◌≡◌, sym, ap, ◌∙◌}
use Prim.Native.Nat.{ℕ, ◌+◌, ◌-◌, ◌<◌}
use native.Mathlib.Omega.{arith}
use lib.ListN.{length, get_or, take, set}
use lib.Seq.{length-take-le}
use Rattle.builder.proofs.Shifts.{shifted, insert-found, insert-at, shift-more, shift-put, put-length}
use Rattle.builder.proofs.insertion.insert.Goals.{then-loop-at-test+else-x-list, else-loop-at-test}
use Rattle.builder.proofs.insertion.insert.Goals.{else-at-gt0-via-then-at-gt0+else-list-at, else-at-gt0-via-else-at-gt0}
use Rattle.builder.proofs.insertion.insert.Goals as goal

pub returns-then-list-at : goal.returns-then-list-at
returns-then-list-at c =
    let a = c.args in
    let p = c.requires in
    let l = c.loop-at in
    let e = insert-found a.list.now a.count a.x p.room p.rises l.at (omega arith) l.invariant.0 c.if-list-at.true in
    record { size = sym (ap (λ (xs : List ℕ). length xs) e ∙ length-take-le a.count a.list.now (omega arith)); first = sym e }

pub loop-k-preserved : goal.loop-k-preserved
loop-k-preserved c =
    let a = c.args in
    let m = c.loop-k in
    let k : m.k - 1 + 1 ≡ m.k = omega (arith, c.loop-k-test.true) in (
      omega (arith, c.loop-k-test.true),
      ap (λ (i : ℕ). set m.list i (get_or m.list (m.k - 1) 0)) k
          ∙ ap (λ (xs : List ℕ). set xs m.k (get_or xs (m.k - 1) 0)) m.invariant.1
          ∙ shift-more a.list.now a.count c.requires.room m.k (omega (arith, c.loop-k-test.true)) m.auto.k,
    )

pub returns : goal.returns
returns c =
    -- where the search ends, the word before is smaller
    let smaller : 0 < c.loop-at.at → get_or c.args.list.now (c.loop-at.at - 1) 0 < c.args.x =
    λ h. elim c.loop-at-test.branch [
      | then-loop-at-test+else-x-list v ↦ elim c.else-at-gt0.branch [
        | else-at-gt0-via-then-at-gt0+else-list-at w ↦ omega (arith, v.if-x-list.false, w.if-list-at.false)
        | else-at-gt0-via-else-at-gt0 w ↦ absurd (omega (arith, w.if-at-gt0.false))
      ]
      | else-loop-at-test v ↦ absurd (omega (arith, v.loop-at-test.false))
    ] in
    let a = c.args in
    let p = c.requires in
    let l = c.loop-at in
    let m = c.loop-k in
    let e = insert-at a.list.now a.count a.x p.room p.rises l.at l.invariant.0 smaller l.invariant.1 in
    let q : m.k ≡ l.at = omega (arith, m.invariant.0, c.loop-k-test.false) in
    let s : m.list ≡ shifted a.list.now l.at a.count = m.invariant.1 ∙ ap (λ (k : ℕ). shifted a.list.now k a.count) q in
    record {
      size = sym (ap (λ (xs : List ℕ). length xs) e ∙ put-length a.list.now a.count p.room l.at a.x l.invariant.0);
      first = ap (λ (xs : List ℕ). take (a.count + 1) (set xs l.at a.x)) s
          ∙ shift-put a.list.now a.count p.room l.at a.x l.invariant.0 ∙ sym e;
    }
