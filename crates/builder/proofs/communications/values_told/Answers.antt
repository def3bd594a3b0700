use mathlib.Core.Path.{◌∙◌}
use Prim.Native.Nat.{◌<◌}
use lib.ListN.{length}
use borrow.Author.Tests.{not-true, not-false}
use Rattle.builder.specs.Inner.Spans.{values_in}
use Rattle.builder.specs.Inner.Parts.{of_table, state, told_by}
use Rattle.builder.proofs.PairLoops.{left-more, left-some, left-none, fewer, runs_done, runs-inside, runs-more, telling}
use Rattle.builder.proofs.communications.values_told.Goals as goal

pub first_run-s-requires : goal.first_run-s-requires
first_run-s-requires c =
    let some : 0 < length (values_in c.loop-p.left) =
    left-some c.loop-p.left c.is_none.result c.is_none.ensures
    (not-true c.is_none.result c.loop-p-test.true-raw) in
    (c.loop-p.invariant.1.narrow, some)

pub tell-q-requires : goal.tell-q-requires
tell-q-requires c =
    let a = c.args in
    let w = a.table.now in
    let l = c.loop-p in
    let r = c.first_run-s in (
      c.requires.0,
      c.requires.1,
      telling w a.p a.way a.x l.left r.result c.requires.2 l.invariant.1 r.ensures,
      runs-inside (of_table w) _ (state l.out l.q) l.left (told_by w a.p a.way) l.invariant.0 l.invariant.1.narrow r.result r.ensures
          c.requires.3,
    )

pub loop-p-smaller : goal.loop-p-smaller
loop-p-smaller c =
    let some : 0 < length (values_in c.loop-p.left) =
    left-some c.loop-p.left c.is_none.result c.is_none.ensures
    (not-true c.is_none.result c.loop-p-test.true-raw) in
    fewer c.loop-p.left c.behind-left.result c.first_run-s.result.count c.first_run-s.ensures.some some
    c.behind-left.ensures

pub loop-p-preserved : goal.loop-p-preserved
loop-p-preserved c =
    let a = c.args in
    let w = a.table.now in
    let l = c.loop-p in
    let r = c.first_run-s in
    let b = c.behind-left in (
      runs-more (of_table w) _ (state l.out l.q) l.left (told_by w a.p a.way) l.invariant.0 l.invariant.1.narrow r.result r.ensures
          _ c.tell-q.ensures b.result b.ensures,
      left-more a.x l.left b.result r.result.count l.invariant.1 b.ensures,
      c.tell-q.auto.out ∙ l.invariant.2,
    )

pub returns : goal.returns
returns c =
    let a = c.args in
    let w = a.table.now in
    let l = c.loop-p in
    let i = c.is_none in
    runs_done (of_table w) _ (state l.out l.q) l.left (told_by w a.p a.way) l.invariant.0
    (left-none l.left i.result i.ensures (not-false i.result c.loop-p-test.false-raw))
