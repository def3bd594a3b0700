use Rattle.std.proofs.Common.{sym, ◌∙◌}
use Rattle.lists.proofs.Tests.{same-yes, same-no}
use Rattle.net.specs.Firing.{is_marking}
use Rattle.net.proofs.Marks.{highest-more, highest-last}
use Rattle.net.proofs.marking_right.Goals as goal

pub returns-then-marking-places : goal.returns-then-marking-places
unfolding is_marking
returns-then-marking-places c = simp (same-no _ _ c.if-marking-places.true)

pub loop-byte-preserved : goal.loop-byte-preserved
loop-byte-preserved c = c.loop-byte.invariant ∙ highest-more _ _ c.loop-byte-test.true _ _ c.max-highest.ensures

pub returns : goal.returns
unfolding is_marking
returns c =
    sym (rw (same-yes _ _ c.if-marking-places.false)
    (c.loop-byte.invariant ∙ highest-last c.args.marking.now c.loop-byte.byte-index c.loop-byte.highest c.loop-byte-test.false))
