use Rattle.std.proofs.Common.{sym, ◌∙◌}
use Rattle.net.proofs.Steps.{replay-end, replay-more, replay-halted}
use Rattle.net.proofs.fire_all.Goals as goal

pub returns-in-Err : goal.returns-in-Err
returns-in-Err c = sym (c.loop-i.invariant ∙ replay-halted _ _ _ _ c.loop-i-test.true _ _ c.in-Err.ensures)

pub loop-i-preserved : goal.loop-i-preserved
loop-i-preserved c = c.loop-i.invariant ∙ replay-more _ _ _ _ c.loop-i-test.true _ c.in_default.ensures

pub returns : goal.returns
returns c = sym (c.loop-i.invariant ∙ replay-end _ _ _ _ c.loop-i-test.false c.loop-i.auto.i-end)
