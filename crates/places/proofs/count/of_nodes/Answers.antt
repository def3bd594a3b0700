use Rattle.std.proofs.Common.{◌<◌, sym, ◌∙◌, arith}
use Rattle.lists.specs.Lists.{range}
use Rattle.scheme.specs.Words.{nodes}
use Rattle.places.specs.Answers.{sums_of}
use Rattle.places.specs.Inner.Counting.{over, node_sums}
use Rattle.places.proofs.Plans.{laid-reached}
use Rattle.places.proofs.Adding.{node-grows, range-few, range-on, range-done}
use Rattle.places.proofs.count.of_nodes.Goals as goal

pub reading_names-read-requires : goal.reading_names-read-requires
reading_names-read-requires c =
    laid-reached c.args.table.now c.args.index.now c.requires.0

pub node-q-requires : goal.node-q-requires
node-q-requires c =
    let a = c.args in
    let w = a.table.now in
    let l = c.loop-n in
    let u : l.n < nodes w = omega (arith, c.word-nodes.ensures.is, c.loop-n-test.true) in (
      c.requires.0,
      c.reading_names-read.ensures.0,
      u,
      range-few (node_sums w) (node-grows w) (over (node_sums w) (sums_of a.t) (range (nodes w))) (sums_of l.q) l.n (nodes w) l.invariant u c.requires.1,
    )

pub loop-n-preserved : goal.loop-n-preserved
loop-n-preserved c =
    let a = c.args in
    let w = a.table.now in
    let l = c.loop-n in
    let u : l.n < nodes w = omega (arith, c.word-nodes.ensures.is, c.loop-n-test.true) in
    range-on (node_sums w) (over (node_sums w) (sums_of a.t) (range (nodes w))) (sums_of l.q) (sums_of c.node-q.result) l.n (nodes w) l.invariant u
    c.node-q.ensures

pub returns : goal.returns
returns c =
    let a = c.args in
    let w = a.table.now in
    let l = c.loop-n in
    sym (l.invariant ∙ range-done (node_sums w) (sums_of l.q) l.n (nodes w) (omega (arith, c.word-nodes.ensures.is, c.loop-n-test.false)))
