use mathlib.Core.Path.{◌∙◌}
use mathlib.Core.List.{[], ◌∷◌}
use Prim.Native.Nat.{◌+◌, ◌/◌, ◌%◌}
use native.Mathlib.Omega.{arith}
use Rattle.print.specs.Text.{decimal}
use Rattle.print.proofs.Decimal.{decimal-one, decimal-more}
use Rattle.print.proofs.Writing.{then}
use Rattle.print.proofs.+put_decimal.Goals as goal

pub returns-then-n-lt10 : goal.returns-then-n-lt10
returns-then-n-lt10 t c = c.put.ensures ∙ rw (c.digit.ensures, decimal-one c.args.n (omega arith))

pub returns : goal.returns
returns t c =
    let n = c.args.n in
    rw (decimal-more n (omega arith)) (then
    _
    (decimal (n / 10))
    ((48 + n % 10) ∷ [])
    c.put_decimal-p.ensures
    (c.put-2.ensures ∙ rw c.digit-2.ensures))
