use mathlib.Core.Path.{◌∙◌}
use Rattle.lists.specs.Lists.{same}
use Rattle.lists.proofs.Tests.{same-no}
use Rattle.builder.proofs.ValueRuns.{none-not, none_is}
use Rattle.builder.proofs.spans.is_none.Goals as goal

pub returns-then-x-eq0 : goal.returns-then-x-eq0
unfolding same
returns-then-x-eq0 c = none_is c.args.x c.requires c.if-x-eq0.true

pub returns-else-x-eq0 : goal.returns-else-x-eq0
unfolding same
returns-else-x-eq0 c = same-no c.args.x.set 0 c.if-x-eq0.false ∙ none-not c.args.x c.requires c.if-x-eq0.false
