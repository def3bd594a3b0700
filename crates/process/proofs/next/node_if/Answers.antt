use Rattle.lists.proofs.Tests.{same-yes, same-no}
use Rattle.process.proofs.next.node_if.Goals as goal

pub returns-then-thread-moved : goal.returns-then-thread-moved
returns-then-thread-moved c = record { is = rw (same-yes _ _ c.if-thread-moved.true); small = c.requires.0 }

pub returns : goal.returns
returns c = record { is = rw (same-no _ _ c.if-thread-moved.false); small = c.requires.1 }
