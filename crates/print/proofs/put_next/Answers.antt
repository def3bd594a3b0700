use mathlib.Core.List.{[], ◌∷◌}
use Rattle.print.specs.Text.{decimal}
use Rattle.print.proofs.Writing.{then}
use Rattle.print.proofs.put_next.Goals as goal

pub returns : goal.returns
returns c =
    then _ (32 ∷ []) (decimal c.args.n) c.put-p.ensures c.put_decimal.ensures
