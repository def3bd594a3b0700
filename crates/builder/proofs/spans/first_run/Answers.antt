use mathlib.Core.Path.{refl}
use Rattle.builder.proofs.ValueRuns.{run-public, run-private}
use Rattle.builder.proofs.spans.first_run.Goals as goal

pub returns-then-set-ne0 : goal.returns-then-set-ne0
returns-then-set-ne0 c = run-public c.args.x c.requires.0 _ _ c.if-set-ne0.true refl refl

pub returns : goal.returns
returns c = run-private c.args.x c.requires.0 c.if-set-ne0.false c.requires.1
