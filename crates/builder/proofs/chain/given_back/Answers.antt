use mathlib.Core.Path.{◌∙◌}
use native.Mathlib.Omega.{arith}
use Rattle.places.proofs.Names.{kind-restricted, kind-free}
use Rattle.places.proofs.Plans.{row_small, free-is, privates-are}
use Rattle.builder.proofs.chain.given_back.Goals as goal

pub returns-then-name_kind-eq0 : goal.returns-then-name_kind-eq0
returns-then-name_kind-eq0 c =
    let k = c.name_kind in
    let w = c.args.table.now in
    rw (kind-restricted w c.args.z k.result c.requires.1 c.requires.2 k.ensures.is c.if-name_kind-eq0.true)
    (c.free_start.ensures.is ∙ free-is w c.args.index.now c.requires.0)

pub overflow_add-result : goal.overflow_add-result
overflow_add-result c =
    omega (arith, c.requires.4, row_small c.args.table.now c.requires.0.accepted c.args.z (omega (arith, c.requires.2)), c.requires.3)

pub overflow_add-result-2 : goal.overflow_add-result-2
overflow_add-result-2 c =
    omega (
      arith,
      c.requires.4,
      row_small c.args.table.now c.requires.0.accepted c.args.z (omega (arith, c.requires.2)),
      c.requires.3,
      c.privates.ensures.small,
    )

pub returns : goal.returns
returns c =
    let k = c.name_kind in
    let w = c.args.table.now in
    let x = c.args.index.now in
    rw (kind-free w c.args.z k.result c.requires.1 c.requires.2 k.ensures.is c.if-name_kind-eq0.false)
    (omega (
      arith,
      c.requires.4,
      c.privates.ensures.is,
      privates-are w x c.requires.0,
    ))
