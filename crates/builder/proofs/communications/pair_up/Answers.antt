use mathlib.Core.Path.{sym, ap, subst, ◌∙◌}
use Prim.Native.Nat.{ℕ, ◌<◌}
use native.Mathlib.Omega.{arith}
use lib.ListN.{length}
use borrow.Author.Tests.{not-true, not-false}
use Rattle.builder.specs.Inner.Writing.{Inside}
use Rattle.builder.specs.Inner.Spans.{values_in, Parted}
use Rattle.builder.specs.Inner.Parts.{of_table, state, put}
use Rattle.builder.proofs.Counted.{Counted, counted}
use Rattle.builder.proofs.ValueLoops.{reach-is, common-told}
use Rattle.builder.proofs.ValueRuns.{common-fits}
use Rattle.builder.proofs.PairLoops.{left-more, left_here, left-some, left-none, fewer, each_told, Gone, gone}
use Rattle.builder.proofs.PairLoops.{each-done, each-inside, each_more}
use Rattle.builder.proofs.communications.pair_up.Goals.{After-privates, After-either-left, In-loop-p}
use Rattle.builder.proofs.communications.pair_up.Goals as goal

-- ---- what is gone through

-- how many public and private values there are
counts : (c : After-privates) → Counted c.args.table.now c.word.result c.privates.result
counts c =
    counted c.args.table.now c.args.index.now c.word.result c.privates.result c.requires.0 c.word.ensures.is c.privates.ensures.is

-- the values of the two loops are those of the pair's communications
known : (c : After-either-left) → Counted c.args.table.now c.word.result c.privates.result
    → Gone c.args.table.now c.args.p c.args.c c.either-left.result c.either-inner.result
known c k =
    let a = c.args in
    let w = a.table.now in
    let r = c.common-both.result in
    let v = c.values_of-shared in
    let l = common-told w a.index.now c.requires.0 a.p.channel a.p.heard c.reach_of.result c.reach_of-2.result r c.reach_of.ensures
    c.reach_of-2.ensures c.common-both.ensures in
    gone w c.requires.0.accepted a.p c.requires.1 a.c c.requires.2 v.result
    (v.ensures.is ∙ reach-is w _ _ r _ k.publics-are k.privates-are l)
    v.ensures.narrow (subst (λ (p : ℕ). Parted p v.result) k.publics-are v.ensures.parted)
    _ _ c.either-left.ensures c.either-inner.ensures

-- some values are left where the loop goes on
some : (c : In-loop-p) → 0 < length (values_in c.loop-p.left)
some c =
    left-some c.loop-p.left c.is_none.result c.is_none.ensures (not-true c.is_none.result c.loop-p-test.true-raw)

pub values_of-shared-requires : goal.values_of-shared-requires
values_of-shared-requires c =
    let a = c.args in
    common-fits a.table.now a.index.now c.requires.0 _ _ (counts (goal.at.values_of-shared-requires c).After-privates) a.p.channel a.p.heard
    c.reach_of.result c.reach_of-2.result c.common-both.result c.reach_of.ensures c.reach_of-2.ensures c.common-both.ensures

pub first_value-requires : goal.first_value-requires
first_value-requires c = (c.loop-p.invariant.1.narrow, some (goal.at.first_value-requires c).In-loop-p)

pub values_told-q-requires : goal.values_told-q-requires
values_told-q-requires c =
    let a = c.args in
    let w = a.table.now in
    let l = c.loop-p in
    let v = c.first_value in
    let g = goal.at.values_told-q-requires c in
    let k = known g.After-either-left (counts g.After-privates) in (
      c.requires.0,
      c.requires.1,
      k.tells v.result (left_here c.either-left.result l.left l.invariant.1 (some g.In-loop-p) v.result v.ensures),
      each-inside (of_table w) _ (state l.out l.q) l.left (each_told w a.p a.c c.either-inner.result) l.invariant.0 (some g.In-loop-p)
          v.result v.ensures (subst Inside (ap (put w a.out.now a.h) k.is) c.requires.3),
    )

pub behind_one-left-requires : goal.behind_one-left-requires
behind_one-left-requires c = (c.loop-p.invariant.1.narrow, some (goal.at.behind_one-left-requires c).In-loop-p)

pub loop-p-smaller : goal.loop-p-smaller
loop-p-smaller c =
    fewer c.loop-p.left c.behind_one-left.result 1 (omega arith) (some (goal.at.loop-p-smaller c).In-loop-p) c.behind_one-left.ensures

pub loop-p-preserved : goal.loop-p-preserved
loop-p-preserved c =
    let a = c.args in
    let w = a.table.now in
    let l = c.loop-p in
    let v = c.first_value in
    let b = c.behind_one-left in (
      each_more (of_table w) _ (state l.out l.q) l.left (each_told w a.p a.c c.either-inner.result) l.invariant.0
          (some (goal.at.loop-p-preserved c).In-loop-p) v.result v.ensures _ c.values_told-q.ensures b.result b.ensures,
      left-more c.either-left.result l.left b.result 1 l.invariant.1 b.ensures,
      c.values_told-q.auto.out ∙ l.invariant.2,
    )

pub returns : goal.returns
returns c =
    let a = c.args in
    let w = a.table.now in
    let l = c.loop-p in
    let i = c.is_none in
    let g = goal.at.returns c in
    each-done (of_table w) _ (state l.out l.q) l.left (each_told w a.p a.c c.either-inner.result) l.invariant.0
    (left-none l.left i.result i.ensures (not-false i.result c.loop-p-test.false-raw))
    ∙ ap (put w a.out.now a.h) (sym (known g.After-either-left (counts g.After-privates)).is)
