use mathlib.Core.Path.{refl}
use native.Mathlib.Omega.{arith}
use Rattle.builder.proofs.ValueRuns.{run-few, run_end, cut-public, cut-private}
use Rattle.builder.proofs.spans.behind.Goals as goal

pub overflow_add-to : goal.overflow_add-to
overflow_add-to c =
    omega (arith, run-few c.args.x c.requires.0 c.args.s c.requires.1)

pub overflow_shr-result : goal.overflow_shr-result
overflow_shr-result c =
    omega (arith, run_end c.args.x c.requires.0 c.args.s c.requires.1 c.if-x-ne0.true)

pub overflow_shl-result : goal.overflow_shl-result
overflow_shl-result c =
    omega (arith, run_end c.args.x c.requires.0 c.args.s c.requires.1 c.if-x-ne0.true)

pub returns-then-x-ne0 : goal.returns-then-x-ne0
returns-then-x-ne0 c =
    cut-public c.args.x c.requires.0 c.args.s c.requires.1 c.if-x-ne0.true _ refl

pub returns : goal.returns
returns c = cut-private c.args.x c.requires.0 c.args.s c.requires.1 c.if-x-ne0.false
