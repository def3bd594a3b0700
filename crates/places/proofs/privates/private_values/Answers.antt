use Rattle.std.proofs.Common.{arith}
use Rattle.places.proofs.Holding.{privates-small, none-restricted, some-restricted, accepted-threads}
use Rattle.places.proofs.privates.private_values.Goals as goal

pub returns-then-free_names-word : goal.returns-then-free_names-word
returns-then-free_names-word c =
    let f = c.free_names in
    let w = c.args.table.now in
    let h = c.requires.0.accepted in
    privates-small w h 0 (none-restricted w h f.result c.word.result f.ensures.0 c.word.ensures.is c.if-free_names-word.true)

pub sum-requires : goal.sum-requires
sum-requires c =
    omega (arith, accepted-threads c.args.table.now c.requires.0.accepted, c.word-2.ensures.is)

pub returns : goal.returns
returns c =
    let raised = c.raise_all in
    let f = c.free_names in
    let w = c.args.table.now in
    let h = c.requires.0.accepted in
    privates-small w h c.sum.result
    (some-restricted w h f.result c.word.result c.word-2.result c.sum.result raised.new.most f.ensures.0
    c.word.ensures.is c.if-free_names-word.false c.word-2.ensures.is raised.ensures c.sum.ensures)
