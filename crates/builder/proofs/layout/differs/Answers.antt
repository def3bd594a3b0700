use mathlib.Core.Path.{ap, ◌∙◌}
use Prim.Native.Nat.{ℕ, ◌+◌, ◌-◌}
use native.Mathlib.Omega.{arith}
use lib.ListN.{length}
use Rattle.lists.specs.Lists.{range, keep}
use Rattle.scheme.specs.Words.{publics}
use Rattle.places.specs.Sets.{bit_at}
use Rattle.places.specs.declared.reach.Reach.{Reach}
use Rattle.places.proofs.Controls.{few-publics, few-privates}
use Rattle.places.proofs.Plans.{row_small, reach-is, few-counted, privates-are}
use Rattle.places.proofs.Names.{differs-of}
use Rattle.builder.proofs.layout.differs.Goals as goal

pub overflow_add-first : goal.overflow_add-first
overflow_add-first c =
    omega (arith, c.requires.2, row_small c.args.table.now c.requires.0.accepted c.args.name (omega (arith, c.requires.1.high)), c.publics_of.ensures.1)

pub overflow_add-first-2 : goal.overflow_add-first-2
overflow_add-first-2 c =
    omega (
      arith,
      c.requires.2,
      row_small c.args.table.now c.requires.0.accepted c.args.name (omega (arith, c.requires.1.high)),
      c.publics_of.ensures.1,
      c.privates.ensures.is,
      few-counted c.args.table.now c.args.index.now c.requires.0,
    )

pub overflow_add-result : goal.overflow_add-result
overflow_add-result c =
    let a = c.args in
    let p = c.requires in
    let w = a.table.now in
    let x = a.index.now in
    omega (
      arith,
      p.1.value,
      few-publics w p.0.accepted,
      few-privates w p.0.accepted,
      p.2,
      row_small w p.0.accepted a.name (omega (arith, p.1.high)),
      c.publics_of.ensures.1,
      c.privates.ensures.is,
      few-counted w x p.0,
    )

pub overflow_cast-result : goal.overflow_cast-result
overflow_cast-result c =
    let a = c.args in
    let p = c.requires in
    let w = a.table.now in
    let x = a.index.now in
    omega (
      arith,
      p.1.value,
      few-publics w p.0.accepted,
      few-privates w p.0.accepted,
      p.2,
      row_small w p.0.accepted a.name (omega (arith, p.1.high)),
      c.publics_of.ensures.1,
      c.privates.ensures.is,
      few-counted w x p.0,
    )

pub returns : goal.returns
returns c =
    let a = c.args in
    let p = c.requires in
    let w = a.table.now in
    let x = a.index.now in
    let k = c.publics_of in
    let n = c.privates in
    ap (λ (q : ℕ). a.row + k.result + n.result + (a.v - q)) c.word.ensures.is
    ∙ differs-of w p.0.accepted a.name a.v a.row k.result n.result p.2
    (k.ensures.0 ∙ ap (λ (z : Reach). length (keep (bit_at z.publics) (range (publics w)))) (c.reach_of-r.ensures ∙ reach-is w x p.0 a.name))
    (n.ensures.is ∙ privates-are w x p.0) p.1
