use Rattle.summary.proofs.Counting.{none_more, lowest-found, lowest-none}
use Rattle.summary.proofs.lowest.Goals as goal

pub returns-then-zeros-lt64 : goal.returns-then-zeros-lt64
returns-then-zeros-lt64 c = lowest-found _ _ c.loop-i-test.true c.loop-i.invariant c.if-zeros-lt64.true

pub loop-i-preserved : goal.loop-i-preserved
loop-i-preserved c = none_more _ _ c.loop-i.invariant c.if-zeros-lt64.false

pub returns : goal.returns
returns c = lowest-none _ _ c.loop-i-test.false c.loop-i.invariant
