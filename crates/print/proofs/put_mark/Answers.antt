use mathlib.Core.List.{[], ◌∷◌}
use Rattle.print.proofs.Writing.{then}
use Rattle.print.proofs.put_mark.Goals as goal

pub returns : goal.returns
returns c =
    then _ (32 ∷ []) (c.args.mark ∷ []) c.put-p.ensures c.put.ensures
