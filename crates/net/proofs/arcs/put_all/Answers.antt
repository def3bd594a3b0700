use Rattle.std.proofs.Common.{sym, ◌∙◌, arith, length-set}
use Rattle.lists.proofs.Ascending.{element-below}
use Rattle.net.proofs.Marks.{put-more, put-none}
use Rattle.net.proofs.arcs.put_all.Goals as goal

pub bounds-marking-place : goal.bounds-marking-place
bounds-marking-place c =
    omega (arith, c.loop-place.invariant.0, element-below _ _ _ c.requires c.loop-place.place-index c.loop-place-test.true)

pub loop-place-preserved : goal.loop-place-preserved
loop-place-preserved c =
    let l = c.loop-place.invariant in
    (simp length-set l.0, l.1 ∙ put-more _ _ c.loop-place-test.true _ _)

pub returns : goal.returns
returns c = sym (c.loop-place.invariant.1 ∙ put-none _ _ c.loop-place-test.false _ _)
