use mathlib.Core.Path.{sym, ◌∙◌}
use Prim.Native.Nat.{◌≤◌}
use native.Mathlib.Omega.{arith}
use Rattle.places.proofs.Plans.{row_small}
use Rattle.readback.proofs.Valuing.{privates-few, opposed-is}
use Rattle.readback.proofs.names.opposed_for.Goals.{After-privates_of-count, Start}
use Rattle.readback.proofs.names.opposed_for.Goals as goal

-- the row starts low
low : (c : Start) → c.args.row ≤ 3072
low c = omega (arith, c.requires.2, row_small c.args.table.now c.requires.0.accepted c.args.name (omega (arith, c.requires.1.1)))

-- how many private values there are
few : (c : After-privates_of-count) → c.privates_of-count.result ≤ 32
few c =
    let a = c.args in
    privates-few a.table.now a.index.now a.marking.now a.marking.now c.requires.0 a.name c.requires.1 c.reach_of-reach.result
    c.reach_of-reach.ensures c.publics_of.result c.privates_of-count.result c.publics_of.ensures.0 c.privates_of-count.ensures

pub overflow_add-private : goal.overflow_add-private
overflow_add-private c =
    omega (arith, (low (goal.at.overflow_add-private c).Start), c.publics_of.ensures.1)

pub overflow_add-private-2 : goal.overflow_add-private-2
overflow_add-private-2 c =
    omega (
      arith,
      (low (goal.at.overflow_add-private-2 c).Start),
      c.publics_of.ensures.1,
      (few (goal.at.overflow_add-private-2 c).After-privates_of-count),
    )

pub opposite-requires : goal.opposite-requires
opposite-requires c = (
  omega (arith, (low (goal.at.opposite-requires c).Start), c.publics_of.ensures.1),
  omega (
    arith,
    (low (goal.at.opposite-requires c).Start),
    c.publics_of.ensures.1,
    (few (goal.at.opposite-requires c).After-privates_of-count),
  ),
  omega (
    arith,
    (few (goal.at.opposite-requires c).After-privates_of-count),
  ),
)

pub returns : goal.returns
returns c =
    let a = c.args in
    c.opposite.ensures
    ∙ opposed-is a.table.now a.index.now a.marking.now a.marking.now c.requires.0 a.name c.requires.1 c.reach_of-reach.result
    c.reach_of-reach.ensures c.publics_of.result c.privates_of-count.result c.publics_of.ensures.0 c.privates_of-count.ensures a.row c.requires.2
    (sym c.is_restricted.ensures ∙ c.if-is_restricted.false)
