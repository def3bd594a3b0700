use Rattle.std.proofs.Common.{rules}
use Rattle.process.specs.Inner.Values.{next_seen_of}
use Rattle.lists.specs.Lists.{same}
use Rattle.process.proofs.formed.next_seen.Goals as goal

pub returns-then-value-eq65535 : goal.returns-then-value-eq65535
unfolding next_seen_of same
returns-then-value-eq65535 c = search rules

pub returns : goal.returns
unfolding next_seen_of same
returns c = search rules
