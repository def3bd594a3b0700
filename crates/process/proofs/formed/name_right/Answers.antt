use Rattle.std.proofs.Common.{rules}
use Rattle.lists.specs.Lists.{same}
use Rattle.scheme.specs.Scheme.{scheme}
use Rattle.process.specs.StateWords.{state_of}
use Rattle.process.proofs.formed.name_right.Goals as goal

pub returns-then-value-eq65535 : goal.returns-then-value-eq65535
unfolding same scheme state_of
returns-then-value-eq65535 c = search rules

pub returns-then-held : goal.returns-then-held
unfolding same scheme state_of
returns-then-held c = search rules

pub returns-else-held : goal.returns-else-held
unfolding same scheme state_of
returns-else-held c = search rules
