use Rattle.builder.proofs.ValueRuns.{first-public, first-private}
use Rattle.builder.proofs.spans.first_value.Goals as goal

pub returns-then-x-ne0 : goal.returns-then-x-ne0
returns-then-x-ne0 c = first-public c.args.x c.requires.0 c.if-x-ne0.true

pub returns : goal.returns
returns c = first-private c.args.x c.requires.0 c.if-x-ne0.false c.requires.1
