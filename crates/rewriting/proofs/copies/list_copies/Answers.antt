use native.Mathlib.Omega.{arith}
use Rattle.scheme.proofs.Joined.{index-room}
use Rattle.rewriting.proofs.Laws.Belongs.{bodies, bodies-lent}
use Rattle.rewriting.proofs.Laws.Rowed.{OneRow, TwoRows, ThreeRows, FourRows, one-row, two-rows, three-rows, four-rows, all-rows}
use Rattle.rewriting.proofs.copies.list_copies.Goals.{After-list_group-d, After-list_groups-x, After-list_groups-n, After-list_spans-b}
use Rattle.rewriting.proofs.copies.list_copies.Goals as goal

-- ---- the rows written after each call

one : (c : After-list_group-d) → OneRow c.args.table.now c.list_group-d.new.out c.list_group-d.result
one c =
    let s = c.requires.spared in
    one-row c.args.table.now s.ok _ _ _ (bodies _ _ s) c.mark_callers.ensures c.requires.list-reach _ c.word.ensures.is _ _ c.list_group-d.ensures

two : (c : After-list_groups-x) → OneRow c.args.table.now c.list_group-d.new.out c.list_group-d.result
    → TwoRows c.args.table.now c.list_groups-x.new.out c.list_group-d.result c.list_groups-x.result
two c before =
    two-rows c.args.table.now c.requires.spared.ok _ _ _ before c.name_definitions.ensures _ _ c.word-publics.ensures.is c.word-2.ensures.is _ _
    c.list_groups-x.ensures

three : (c : After-list_groups-n) → TwoRows c.args.table.now c.list_groups-x.new.out c.list_group-d.result c.list_groups-x.result
    → ThreeRows c.args.table.now c.list_groups-n.new.out c.list_group-d.result c.list_groups-x.result c.list_groups-n.result
three c before =
    let s = c.requires.spared in
    three-rows c.args.table.now s.ok _ _ _ _ before (bodies-lent _ _ s) _ c.word-3.ensures.is _ _ c.list_groups-n.ensures

four : (c : After-list_spans-b) → ThreeRows c.args.table.now c.list_groups-n.new.out c.list_group-d.result c.list_groups-x.result c.list_groups-n.result
    → FourRows c.args.table.now c.list_spans-b.new.out c.list_group-d.result c.list_groups-x.result c.list_groups-n.result c.list_spans-b.result
four c before = four-rows c.args.table.now c.requires.spared.ok _ _ _ _ before _ _ c.list_spans-b.ensures

-- ---- the answers

pub slice_bounds-definitions-end : goal.slice_bounds-definitions-end
slice_bounds-definitions-end c = omega (arith, index-room _ _ c.requires.spared.right)

pub list_groups-x-requires : goal.list_groups-x-requires
list_groups-x-requires c =
    let q = one (goal.at.list_groups-x-requires c).After-list_group-d in (
      omega (arith, c.word-publics.ensures.small, c.word-2.ensures.small),
      q.definition-row.few,
      omega (arith, q.definition-row.few, q.reach),
      omega arith,
    )

pub list_groups-n-requires : goal.list_groups-n-requires
list_groups-n-requires c =
    let a = goal.at.list_groups-n-requires c in
    let q = two a.After-list_groups-x (one a.After-list_group-d) in
    (omega (arith, c.word-3.ensures.small), omega (arith, q.definition-row.few), omega (arith, q.definition-row.few, q.reach), omega arith)

pub list_spans-b-requires : goal.list_spans-b-requires
list_spans-b-requires c =
    let a = goal.at.list_spans-b-requires c in
    let q = three a.After-list_groups-n (two a.After-list_groups-x (one a.After-list_group-d)) in
    (omega (arith, q.node_row.few), omega (arith, q.node_row.few, q.reach), omega arith)

pub list_spans-a-requires : goal.list_spans-a-requires
list_spans-a-requires c =
    let a = goal.at.list_spans-a-requires c in
    let q = four a.After-list_spans-b (three a.After-list_groups-n (two a.After-list_groups-x (one a.After-list_group-d))) in
    (omega (arith, q.node_row.few), omega (arith, q.node_row.few, q.reach), omega arith)

pub returns : goal.returns
returns c =
    let a = goal.at.returns c in
    let q = four a.After-list_spans-b (three a.After-list_groups-n (two a.After-list_groups-x (one a.After-list_group-d))) in
    all-rows c.args.table.now c.requires.spared.ok _ _ _ _ _ q _ _ c.list_spans-a.ensures
