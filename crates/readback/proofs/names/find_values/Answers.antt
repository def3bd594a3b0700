use mathlib.Core.Path.{◌≡◌, sym, ◌∙◌}
use mathlib.Core.Bool.{◌&&◌, false, false≢true}
use Prim.Native.Nat.{◌+◌, ◌-◌, ◌≤◌}
use native.Mathlib.Omega.{arith}
use Rattle.lists.specs.Lists.{word, from, every}
use Rattle.lists.proofs.Ranges.{every_more, every-stop, every-done}
use Rattle.lists.proofs.Tests.{and-false}
use Rattle.scheme.specs.Scheme.{scheme}
use Rattle.readback.specs.Inner.Standing.{value_right, is_opposed_for}
use Rattle.places.specs.Inner.Plan.{row_of}
use Rattle.places.proofs.Plans.{row-none}
use Rattle.readback.proofs.Valuing.{values-start, opposed-start, values-more, end-few, row_on}
use Rattle.readback.proofs.names.find_values.Goals.{After-row_places-row, then-not-find_value-via-then-not-find_value, then-not-find_value-via-else-not-find_value+then-not-opposed_for}
use Rattle.readback.proofs.names.find_values.Goals as goal

-- one name on
on : (c : After-row_places-row) →
    let w = c.args.table.now in
    (c.loop-x.row + c.row_places-row.result ≡ row_of w (c.loop-x.x + 1)) × (row_of w (c.loop-x.x + 1) ≤ 3072)
on c =
    let l = c.loop-x in
    row_on c.args.table.now c.args.index.now c.requires.0 c.word-publics.result c.word.result c.word-publics.ensures.is
    c.word.ensures.is l.x l.row c.row_places-row.result l.auto.x c.loop-x-test.true
    l.invariant.row c.row_places-row.ensures

pub loop-x-init : goal.loop-x-init
loop-x-init c =
    let a = c.args in
    record {
      tests =
          rw (
            values-start a.table.now a.marking.now c.word-publics.result c.word.result c.word-publics.ensures.is c.word.ensures.is (word a.held.now),
            opposed-start a.table.now a.marking.now c.word-publics.result c.word.result c.word-publics.ensures.is c.word.ensures.is,
          );
      values = λ y lo hi. absurd (omega (arith, c.word-publics.ensures.is));
      row = sym (row-none a.table.now c.word-publics.result (omega (arith, c.word-publics.ensures.is)));
    }

pub returns-then-not-find_value : goal.returns-then-not-find_value
returns-then-not-find_value c =
    let l = c.loop-x in
    let a = c.args in
    let e = c.word-publics.result + c.word.result in
    let v = value_right (scheme a.table.now) a.marking.now (word a.held.now) in
    let o = is_opposed_for (scheme a.table.now) a.marking.now in
    let stop : (every v (from l.x (e - l.x)) && every o (from l.x (e - l.x))) ≡ false = elim c.then-not-find_value.branch [
      | then-not-find_value-via-then-not-find_value w ↦ rw (every-stop v l.x e c.loop-x-test.true (sym c.find_value.ensures.0 ∙ w.if-not-find_value.true))
      | then-not-find_value-via-else-not-find_value+then-not-opposed_for w ↦
          rw (every-stop o l.x e c.loop-x-test.true (sym w.opposed_for.ensures ∙ w.if-not-opposed_for.true)) (and-false (every v (from l.x (e - l.x))))
    ] in
    (sym (l.invariant.tests ∙ stop), λ q. absurd (false≢true q))

pub overflow_add-row : goal.overflow_add-row
overflow_add-row c = omega (
  arith,
  ((on (goal.at.overflow_add-row c).After-row_places-row)).0,
  ((on (goal.at.overflow_add-row c).After-row_places-row)).1,
)

pub loop-x-preserved : goal.loop-x-preserved
loop-x-preserved c =
    let l = c.loop-x in
    let a = c.args in
    let e = c.word-publics.result + c.word.result in
    let r = c.if-not-find_value.false in
    record {
      tests =
          l.invariant.tests ∙ rw (
            every_more (value_right (scheme a.table.now) a.marking.now (word a.held.now)) l.x e c.loop-x-test.true (sym c.find_value.ensures.0 ∙ r),
            every_more (is_opposed_for (scheme a.table.now) a.marking.now) l.x e c.loop-x-test.true (sym c.opposed_for.ensures ∙ c.if-not-opposed_for.false),
          );
      values =
          values-more a.table.now a.marking.now l.values _ l.x
          (omega (
            arith,
            c.requires.1,
            l.auto.values,
            c.loop-x-test.true,
            end-few a.table.now a.marking.now c.word-publics.result c.word.result c.word-publics.ensures.is c.word.ensures.is c.requires.0.accepted,
          )) l.invariant.values (c.find_value.ensures.1 r);
      row = ((on (goal.at.loop-x-preserved c).After-row_places-row)).0;
    }

pub returns : goal.returns
returns c =
    let l = c.loop-x in
    let a = c.args in
    let e = c.word-publics.result + c.word.result in (
      sym (l.invariant.tests ∙ rw (
        every-done (value_right (scheme a.table.now) a.marking.now (word a.held.now)) l.x e c.loop-x-test.false,
        every-done (is_opposed_for (scheme a.table.now) a.marking.now) l.x e c.loop-x-test.false,
      )),
      λ q y lo hi. l.invariant.values y lo (omega (arith, hi, c.loop-x-test.false, c.word-publics.ensures.is, c.word.ensures.is)),
    )
