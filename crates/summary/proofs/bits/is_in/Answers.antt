use Rattle.std.proofs.Common.{sym}
use Rattle.summary.specs.Sets.{is_in_set}
use Rattle.summary.proofs.Tested.{none-past}
use Rattle.summary.proofs.bits.is_in.Goals as goal

pub returns-then-enabled-i : goal.returns-then-enabled-i
returns-then-enabled-i c = sym (none-past _ _ c.if-enabled-i.true)

pub returns : goal.returns
unfolding is_in_set
returns c = c.bit_of.ensures
