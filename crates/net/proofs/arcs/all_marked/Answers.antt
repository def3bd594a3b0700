use Rattle.std.proofs.Common.{◌∙◌, sym}
use Rattle.lists.proofs.Ascending.{element-below}
use Rattle.net.proofs.Marks.{enabled-not, enabled-more, enabled-none}
use Rattle.net.proofs.arcs.all_marked.Goals as goal

pub bounds-marking-place : goal.bounds-marking-place
bounds-marking-place c = element-below _ _ _ c.requires c.loop-place.place-index c.loop-place-test.true

pub returns-then-marking-place-ne1 : goal.returns-then-marking-place-ne1
returns-then-marking-place-ne1 c = sym (c.loop-place.invariant ∙ enabled-not _ _ _ c.loop-place-test.true c.if-marking-place-ne1.true)

pub loop-place-preserved : goal.loop-place-preserved
loop-place-preserved c = c.loop-place.invariant ∙ enabled-more _ _ _ c.loop-place-test.true c.if-marking-place-ne1.false

pub returns : goal.returns
returns c = sym (c.loop-place.invariant ∙ enabled-none c.args.marking.now c.args.places.now c.loop-place.place-index c.loop-place-test.false)
