use mathlib.Core.Path.{◌≡◌, sym, ap, ◌∙◌}
use Prim.Native.Nat.{◌+◌, ◌≤◌}
use native.Mathlib.Omega.{arith}
use lib.ListN.{length}
use Rattle.lists.specs.Lists.{range, keep}
use Rattle.scheme.specs.Words.{publics}
use Rattle.places.specs.Sets.{bit_at}
use Rattle.places.specs.declared.reach.Reach.{Reach}
use Rattle.places.proofs.Names.{read-tells}
use Rattle.places.specs.Inner.Plan.{row_of}
use Rattle.places.proofs.Plans.{laid-reached, row-none, row_small}
use Rattle.places.proofs.Starts.{row-goes-on}
use Rattle.builder.proofs.Counted.{Counted, counted}
use Rattle.builder.proofs.Marked.{rows-begin, rows-skip, rows-put, rows-room, rows-close}
use Rattle.builder.proofs.marking.initial_rows.Goals.{After-privates-privates, After-publics_of, After-row_places-row, then-is_read, else-is_read}
use Rattle.builder.proofs.marking.initial_rows.Goals as goal

-- the counts, as they are read
told : (c : After-privates-privates) → Counted c.args.table.now c.word-publics.result c.privates-privates.result
told c = counted c.args.table.now c.args.index.now _ _ c.requires c.word-publics.ensures.is c.privates-privates.ensures.is

-- the sums that are formed are small
room : (c : After-publics_of)
    → Counted c.args.table.now c.word-publics.result c.privates-privates.result
    → (c.loop-x.row + (c.publics_of.result + c.privates-privates.result) + c.privates-privates.result ≤ 4096) × (c.loop-x.at ≤ 4096)
room c d =
    let l = c.loop-x in
    let r = rows-room c.args.table.now c.args.index.now c.requires _ _ c.word.result d c.word.ensures.is c.args.out.now
    l.out l.at l.x l.row l.invariant.0 c.loop-x-test.true l.invariant.1 in
    (omega (arith, r.0, c.publics_of.ensures.1), r.1)

-- one name on
on : (c : After-row_places-row)
    → Counted c.args.table.now c.word-publics.result c.privates-privates.result
    → c.loop-x.row + c.row_places-row.result ≡ row_of c.args.table.now (c.loop-x.x + 1)
on c d =
    let l = c.loop-x in
    omega (
      arith,
      l.invariant.1,
      c.row_places-row.ensures,
      row-goes-on c.args.table.now c.args.index.now c.requires l.x l.invariant.0.low
          (omega (arith, c.loop-x-test.true, d.publics-are, c.word.ensures.is)),
    )

pub loop-x-init : goal.loop-x-init
loop-x-init c =
    let w = c.args.table.now in (
      rows-begin w c.args.index.now c.requires _ _ c.word.result (told (goal.at.loop-x-init c).After-privates-privates) c.word.ensures.is
          c.args.out.now,
      sym (row-none w c.word-publics.result (omega (arith, c.word-publics.ensures.is))),
    )

pub overflow_add-row : goal.overflow_add-row
overflow_add-row c =
    let x = goal.at.overflow_add-row c in
    omega (arith, room x.After-publics_of (told x.After-privates-privates))

pub count_up-at-requires : goal.count_up-at-requires
count_up-at-requires c =
    let x = goal.at.count_up-at-requires c in
    let r = room x.After-publics_of (told x.After-privates-privates) in
    (omega (arith, r.0), omega (arith, r.1))

pub overflow_add-row-in-loop-x : goal.overflow_add-row-in-loop-x
overflow_add-row-in-loop-x c =
    let x = goal.at.overflow_add-row-in-loop-x c in
    let d = told x.After-privates-privates in
    omega (
      arith,
      on x.After-row_places-row d,
      row_small c.args.table.now c.requires.accepted (c.loop-x.x + 1)
          (omega (arith, c.loop-x-test.true, d.publics-are, c.word.ensures.is)),
    )

pub loop-x-preserved : goal.loop-x-preserved
loop-x-preserved c =
    let x = goal.at.loop-x-preserved c in
    let a = c.args in
    let p = c.requires in
    let w = a.table.now in
    let y = a.index.now in
    let l = c.loop-x in
    let b = c.word in
    let d = told x.After-privates-privates in
    let t = c.loop-x-test.true in
    let k = read-tells w p.accepted y (laid-reached w y p) l.x c.is_read.result c.is_read.ensures in (
      elim c.if-is_read.branch [
        | then-is_read v ↦ rows-put w y p _ _ b.result d b.ensures.is a.out.now l.out c.if-is_read.out l.at c.if-is_read.at l.x l.row v.publics_of.result
            l.invariant.0 t
            (record {
              reads = sym k ∙ v.if-is_read.true;
              row_is = l.invariant.1;
              count-is = v.publics_of.ensures.0 ∙ ap (λ (z : Reach). length (keep (bit_at z.publics) (range (publics w)))) v.reach_of.ensures;
            })
            (v.at-is ∙ v.count_up-at.ensures.0) (v.out-is ∙ v.count_up-at.ensures.1)
        | else-is_read v ↦ rows-skip w y p _ _ b.result d b.ensures.is a.out.now l.out c.if-is_read.out l.at c.if-is_read.at l.x l.invariant.0 t
            (sym k ∙ v.if-is_read.false) v.at-is v.out-is
      ],
      on x.After-row_places-row d,
    )

pub returns : goal.returns
returns c =
    let l = c.loop-x in
    rows-close c.args.table.now c.args.index.now c.requires _ _ c.word.result (told (goal.at.returns c).After-privates-privates)
    c.word.ensures.is c.args.out.now
    l.out l.at l.x l.invariant.0 c.loop-x-test.false
