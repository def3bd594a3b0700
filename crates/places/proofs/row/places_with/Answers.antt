use Rattle.std.proofs.Common.{arith}
use Rattle.places.specs.Starts.{places_in}
use Rattle.places.proofs.Starts.{total-more, total-done, span-told}
use Rattle.places.proofs.row.places_with.Goals as goal

pub loop-x-preserved : goal.loop-x-preserved
loop-x-preserved c =
    let a = c.args in
    let l = c.loop-x in (
      omega (
        arith,
        l.invariant.0,
        c.places_of-count.ensures.0,
        total-more (places_in c.word-publics.result a.index.now a.privates) l.x c.min-last.result c.loop-x-test.true,
      ),
      omega (arith, l.invariant.1, c.places_of-count.ensures.1),
      omega (arith, l.invariant.2),
    )

pub returns : goal.returns
returns c =
    let a = c.args in
    let l = c.loop-x in
    omega (
      arith,
      l.invariant.0,
      total-done (places_in c.word-publics.result a.index.now a.privates) l.x c.min-last.result c.loop-x-test.false,
      span-told a.table.now a.index.now a.privates a.first a.end c.word-publics.result c.word.result c.max-x.result
          c.min-last.result c.word-publics.ensures.is c.word.ensures.is c.max-x.ensures c.min-last.ensures,
    )
