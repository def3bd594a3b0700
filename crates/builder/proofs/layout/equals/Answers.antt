use mathlib.Core.Path.{ap, ◌∙◌}
use Prim.Native.Nat.{ℕ, ◌+◌, ◌-◌}
use native.Mathlib.Omega.{arith}
use lib.ListN.{length}
use Rattle.lists.specs.Lists.{range, keep}
use Rattle.scheme.specs.Words.{publics}
use Rattle.places.specs.Sets.{bit_at}
use Rattle.places.specs.declared.reach.Reach.{Reach}
use Rattle.places.proofs.Controls.{few-publics, few-privates}
use Rattle.places.proofs.Plans.{row_small, reach-is}
use Rattle.places.proofs.Names.{held-value, equals-of-public, equals-of-private}
use Rattle.builder.proofs.layout.equals.Goals as goal

pub overflow_add-result : goal.overflow_add-result
overflow_add-result c =
    let a = c.args in
    let p = c.requires in
    omega (arith, p.2, row_small a.table.now p.0.accepted a.name (omega (arith, p.1.high)), c.rank.ensures.1)

pub overflow_cast-result : goal.overflow_cast-result
overflow_cast-result c =
    let a = c.args in
    let p = c.requires in
    omega (arith, p.2, row_small a.table.now p.0.accepted a.name (omega (arith, p.1.high)), c.rank.ensures.1)

pub returns-then-v-publics : goal.returns-then-v-publics
returns-then-v-publics c =
    let a = c.args in
    let p = c.requires in
    let w = a.table.now in
    let x = a.index.now in
    let r = c.reach_of-r in
    equals-of-public w p.0.accepted a.name a.v a.row c.rank.result p.2
    (c.rank.ensures.0 ∙ ap (λ (z : Reach). length (keep (bit_at z.publics) (range a.v))) (r.ensures ∙ reach-is w x p.0 a.name))
    (omega (arith, c.if-v-publics.true, c.word-publics.ensures.is))

pub overflow_add-result-2 : goal.overflow_add-result-2
overflow_add-result-2 c =
    let a = c.args in
    let p = c.requires in
    omega (arith, p.2, row_small a.table.now p.0.accepted a.name (omega (arith, p.1.high)), c.rank-2.ensures.1)

pub overflow_add-result-3 : goal.overflow_add-result-3
overflow_add-result-3 c =
    let a = c.args in
    let p = c.requires in
    let w = a.table.now in
    omega (
      arith,
      held-value w p.0.accepted a.name a.v p.1,
      few-publics w p.0.accepted,
      few-privates w p.0.accepted,
      p.2,
      row_small w p.0.accepted a.name (omega (arith, p.1.high)),
      c.rank-2.ensures.1,
    )

pub overflow_cast-result-2 : goal.overflow_cast-result-2
overflow_cast-result-2 c =
    let a = c.args in
    let p = c.requires in
    let w = a.table.now in
    omega (
      arith,
      held-value w p.0.accepted a.name a.v p.1,
      few-publics w p.0.accepted,
      few-privates w p.0.accepted,
      p.2,
      row_small w p.0.accepted a.name (omega (arith, p.1.high)),
      c.rank-2.ensures.1,
    )

pub returns : goal.returns
returns c =
    let a = c.args in
    let p = c.requires in
    let w = a.table.now in
    let x = a.index.now in
    let r = c.reach_of-r in
    let q = c.word-publics.ensures.is in
    let k = c.rank-2 in
    let row = a.row in
    ap (λ (q : ℕ). row + k.result + (a.v - q)) q
    ∙ equals-of-private w p.0.accepted a.name a.v row k.result
    p.2
    (k.ensures.0 ∙ ap (λ (n : ℕ). length (keep (bit_at r.result.publics) (range n))) q
    ∙ ap (λ (z : Reach). length (keep (bit_at z.publics) (range (publics w)))) (r.ensures ∙ reach-is w x p.0 a.name))
    (omega (arith, c.if-v-publics.false, q)) p.1
