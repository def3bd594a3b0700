use Rattle.builder.proofs.ValueRuns.{behind-public, behind-private}
use Rattle.builder.proofs.spans.behind_one.Goals as goal

pub returns-then-x-ne0 : goal.returns-then-x-ne0
returns-then-x-ne0 c = behind-public c.args.x c.requires.0 c.if-x-ne0.true

pub returns : goal.returns
returns c = behind-private c.args.x c.requires.0 c.if-x-ne0.false c.requires.1
