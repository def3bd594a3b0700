use mathlib.Core.Bool.{false≢true}
use native.Mathlib.Omega.{arith}
use Rattle.places.proofs.Controls.{few-publics}
use Rattle.places.proofs.Plans.{row_small}
use Rattle.readback.proofs.Valuing.{privates-few, not_right, is_right, fill_none, fill-some, first_small, value-small}
use Rattle.readback.proofs.names.find_value.Goals as goal

pub find-f-requires : goal.find-f-requires
find-f-requires c = (
  omega (arith, c.requires.2, row_small c.args.table.now c.requires.0.accepted c.args.name (omega (arith, c.requires.1.1))),
  omega (
    arith,
    c.publics_of.ensures.1,
    privates-few c.args.table.now c.args.index.now c.args.marking.now c.args.held.now c.requires.0 c.args.name c.requires.1
        c.reach_of-reach.result c.reach_of-reach.ensures c.publics_of.result c.privates_of.result c.publics_of.ensures.0
        c.privates_of.ensures,
  ),
)

pub returns-then-f-word : goal.returns-then-f-word
returns-then-f-word c = (
  not_right c.args.table.now c.args.index.now c.args.marking.now c.args.held.now c.requires.0 c.args.name c.requires.1
      c.reach_of-reach.result c.reach_of-reach.ensures c.publics_of.result c.privates_of.result c.publics_of.ensures.0
      c.privates_of.ensures c.args.row c.requires.2 c.find-f.result c.find-f.ensures c.word.result
      c.word.ensures.is c.if-f-word.true,
  λ e. absurd (false≢true e),
)

pub returns-then-f-eq0 : goal.returns-then-f-eq0
returns-then-f-eq0 c = (
  is_right c.args.table.now c.args.index.now c.args.marking.now c.args.held.now c.requires.0 c.args.name c.requires.1
      c.reach_of-reach.result c.reach_of-reach.ensures c.publics_of.result c.privates_of.result c.publics_of.ensures.0
      c.privates_of.ensures c.args.row c.requires.2 c.find-f.result c.find-f.ensures c.word.result
      c.word.ensures.is c.if-f-word.false,
  λ e. fill_none c.args.table.now c.args.index.now c.args.marking.now c.args.held.now c.requires.0 c.args.name
      c.requires.1
      c.reach_of-reach.result c.reach_of-reach.ensures c.publics_of.result c.privates_of.result c.publics_of.ensures.0
      c.privates_of.ensures c.args.row c.requires.2 c.find-f.result c.find-f.ensures _ _ c.if-f-eq0.true
      c.store.ensures,
)

pub value_at-requires : goal.value_at-requires
value_at-requires c = (
  omega (arith, few-publics c.args.table.now c.requires.0.accepted),
  first_small c.args.table.now c.args.index.now c.args.marking.now c.args.held.now c.requires.0 c.args.name c.requires.1
      c.reach_of-reach.result c.reach_of-reach.ensures c.publics_of.result c.privates_of.result c.publics_of.ensures.0
      c.privates_of.ensures c.args.row c.requires.2 c.find-f.result c.find-f.ensures,
)

pub overflow_cast-value_at : goal.overflow_cast-value_at
overflow_cast-value_at c =
    omega (
      arith,
      value-small c.args.table.now c.args.index.now c.args.marking.now c.args.held.now c.requires.0 c.args.name c.requires.1
          c.reach_of-reach.result c.reach_of-reach.ensures c.publics_of.result c.privates_of.result c.publics_of.ensures.0
          c.privates_of.ensures c.args.row c.requires.2 c.find-f.result c.find-f.ensures c.value_at.result
          c.value_at.ensures c.if-f-eq0.false,
    )

pub returns : goal.returns
returns c = (
  is_right c.args.table.now c.args.index.now c.args.marking.now c.args.held.now c.requires.0 c.args.name c.requires.1
      c.reach_of-reach.result c.reach_of-reach.ensures c.publics_of.result c.privates_of.result c.publics_of.ensures.0
      c.privates_of.ensures c.args.row c.requires.2 c.find-f.result c.find-f.ensures c.word.result
      c.word.ensures.is c.if-f-word.false,
  λ e. fill-some c.args.table.now c.args.index.now c.args.marking.now c.args.held.now c.requires.0 c.args.name
      c.requires.1
      c.reach_of-reach.result c.reach_of-reach.ensures c.publics_of.result c.privates_of.result c.publics_of.ensures.0
      c.privates_of.ensures c.args.row c.requires.2 c.find-f.result c.find-f.ensures c.value_at.result
      c.value_at.ensures _ _ c.if-f-eq0.false c.store-2.ensures,
)
