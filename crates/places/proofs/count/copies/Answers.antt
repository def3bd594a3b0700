use Rattle.std.proofs.Common.{◌-◌, map, sym, ◌∙◌, subst}
use Rattle.lists.specs.Lists.{from}
use Rattle.scheme.specs.Words.{argument}
use Rattle.places.specs.Answers.{sums_of}
use Rattle.places.specs.Inner.Counting.{Few, over, copy_sums}
use Rattle.places.proofs.Adding.{copy-grows, map-few, map_on, map-done}
use Rattle.places.proofs.NodeCounts.{copy_read}
use Rattle.places.proofs.count.copies.Goals as goal

pub for_values-r-requires : goal.for_values-r-requires
for_values-r-requires c =
    let a = c.args in
    let w = a.table.now in
    let l = c.loop-i in
    let x = c.field1-name in (
      c.requires.0,
      subst Few (copy_read w (sums_of l.r) x.result c.bound-read.result c.bound-read.ensures)
          (map-few (copy_sums w) (copy-grows w) (argument w) (over (copy_sums w) (sums_of a.t) (map (argument w) (from a.first (a.end - a.first))))
          (sums_of l.r) l.i a.end x.result l.invariant c.loop-i-test.true x.ensures.is c.requires.1),
    )

pub loop-i-preserved : goal.loop-i-preserved
loop-i-preserved c =
    let a = c.args in
    let w = a.table.now in
    let l = c.loop-i in
    let x = c.field1-name in
    let r = c.for_values-r in
    map_on (copy_sums w) (argument w) (over (copy_sums w) (sums_of a.t) (map (argument w) (from a.first (a.end - a.first)))) (sums_of l.r)
    (sums_of r.result) l.i a.end x.result l.invariant c.loop-i-test.true x.ensures.is
    (r.ensures ∙ sym (copy_read w (sums_of l.r) x.result c.bound-read.result c.bound-read.ensures))

pub returns : goal.returns
returns c =
    let a = c.args in
    let w = a.table.now in
    let l = c.loop-i in
    sym (l.invariant ∙ map-done (copy_sums w) (argument w) (sums_of l.r) l.i a.end c.loop-i-test.false)
