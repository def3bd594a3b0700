use mathlib.Core.Path.{◌≡◌, refl, sym, ap, ◌∙◌}
use Prim.Native.Nat.{◌+◌, ◌≤◌, ◌<◌}
use native.Mathlib.Omega.{arith}
use lib.ListN.{length}
use Rattle.scheme.specs.Words.{publics, names}
use Rattle.scheme.specs.Scheme.{scheme}
use Rattle.places.specs.Inner.Arcs.{numbers_for}
use Rattle.places.specs.Inner.Plan.{today, row_of, Differs}
use Rattle.builder.specs.Inner.Parts.{Filled}
use Rattle.places.proofs.Controls.{few-bounds}
use Rattle.places.proofs.Names.{read-tells}
use Rattle.places.proofs.Plans.{laid-reached, row-none, row_small}
use Rattle.places.proofs.Starts.{row-goes-on}
use Rattle.builder.proofs.Filling.{fill-same, fill-rising}
use Rattle.builder.proofs.Making.{differs_below, below_length, below_all, below-start, below-with, below-without, read-free, read-private}
use Rattle.builder.proofs.nodes.differences.Goals.{then-is_read, else-is_read}
use Rattle.builder.proofs.nodes.differences.Goals as goal

pub loop-x-init : goal.loop-x-init
loop-x-init c =
    let a = c.args in
    let e = c.word-publics.ensures.is in (
      below-start a.table.now a.v a.list.now c.word-publics.result e,
      refl,
      sym (row-none a.table.now c.word-publics.result (omega (arith, e))),
    )

pub differs-requires : goal.differs-requires
differs-requires c =
    let differs-here : let a = c.args in
    Differs a.table.now c.loop-x.x a.v =
    let w = c.args.table.now in
    let p = c.requires in
    let x = c.loop-x.x in
    let k = c.is_read in
    let i = c.args.index.now in
    let v = c.args.v in
    let r = sym (read-tells w p.0.accepted i (laid-reached w i p.0) x k.result k.ensures) ∙ c.if-is_read.true in
    let l : publics w ≤ x = omega (arith, c.word-publics.ensures.is) in
    let u : x < names w = omega (
      arith,
      c.loop-x-test.true,
      c.word-publics.ensures.is,
      c.word.ensures.is,
    ) in
    record { low = l; high = u; free = read-free w v x r; reads = read-private w v x r; private = p.1; value = p.2 } in (
      c.requires.0,
      differs-here,
      c.loop-x.invariant.2,
    )

pub insert-count-requires : goal.insert-count-requires
insert-count-requires c =
    let a = c.args in
    let p = c.requires in
    let l = c.loop-x in
    fill-rising a.table.now p.0.accepted l.list l.count (differs_below a.table.now a.v l.x)
    (omega (
      arith,
      below_length a.table.now a.v l.x,
      c.loop-x-test.true,
      c.word-publics.ensures.is,
      c.word.ensures.is,
      few-bounds a.table.now p.0.accepted,
      p.3,
      l.invariant.1,
      c.loop-x.auto.x,
    )) l.invariant.0

pub overflow_add-row : goal.overflow_add-row
overflow_add-row c =
    let below : c.loop-x.x < names c.args.table.now =
    omega (
      arith,
      c.loop-x-test.true,
      c.word-publics.ensures.is,
      c.word.ensures.is,
    ) in
    let on : let l = c.loop-x in
    l.row + c.row_places-row.result ≡ row_of c.args.table.now (l.x + 1) =
    let l = c.loop-x in
    omega (
      arith,
      l.invariant.2,
      c.row_places-row.ensures,
      row-goes-on c.args.table.now c.args.index.now c.requires.0 l.x (omega (arith, c.word-publics.ensures.is)) below,
    ) in
    let l = c.loop-x in
    omega (arith, on, row_small c.args.table.now c.requires.0.accepted (l.x + 1) (omega (arith, below)))

pub loop-x-preserved : goal.loop-x-preserved
loop-x-preserved c =
    let below : c.loop-x.x < names c.args.table.now =
    omega (
      arith,
      c.loop-x-test.true,
      c.word-publics.ensures.is,
      c.word.ensures.is,
    ) in
    let turn : let a = c.args in
    Filled a.table.now c.if-is_read.list c.if-is_read.count (differs_below a.table.now a.v (c.loop-x.x + 1))
    × (length c.if-is_read.list ≡ length a.list.now) =
    let a = c.args in
    let p = c.requires in
    let w = a.table.now in
    let l = c.loop-x in
    let k = c.is_read in
    let i = a.index.now in
    let r = read-tells w p.0.accepted i (laid-reached w i p.0) l.x k.result k.ensures in
    elim c.if-is_read.branch [
      | then-is_read y ↦ rw (y.list-is, y.count-is) (
        below-with w a.v l.list _ l.count _ y.differs.result l.x (record {
          low = (omega (arith, c.word-publics.ensures.is));
          high = below;
          free = read-free w a.v l.x (sym r ∙ y.if-is_read.true);
          reads = read-private w a.v l.x (sym r ∙ y.if-is_read.true);
          private = p.1;
          value = p.2;
        }) y.differs.ensures y.insert-count.ensures l.invariant.0,
        y.insert-count.auto.list ∙ l.invariant.1,
      )
      | else-is_read y ↦ rw (y.list-is, y.count-is) (
        below-without w a.v l.list l.count l.x p.1 (omega (arith, c.word-publics.ensures.is)) (sym r ∙ y.if-is_read.false) l.invariant.0,
        l.invariant.1,
      )
    ] in
    let on : let l = c.loop-x in
    l.row + c.row_places-row.result ≡ row_of c.args.table.now (l.x + 1) =
    let l = c.loop-x in
    omega (
      arith,
      l.invariant.2,
      c.row_places-row.ensures,
      row-goes-on c.args.table.now c.args.index.now c.requires.0 l.x (omega (arith, c.word-publics.ensures.is)) below,
    ) in (
      turn.0,
      turn.1,
      on,
    )

pub returns : goal.returns
returns c =
    let a = c.args in
    let w = a.table.now in
    let l = c.loop-x in
    let e = below_all w a.v l.x (omega (
      arith,
      c.loop-x-test.false,
      c.word-publics.ensures.is,
      c.word.ensures.is,
    )) in
    let f = fill-same w l.list l.count _ _ (ap (numbers_for (scheme w) (today w)) e) l.invariant.0 in
    (f.holds, f.size)
