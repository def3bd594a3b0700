use mathlib.Core.Path.{◌∙◌}
use lib.ListN.{length}
use Rattle.scheme.proofs.Scatter.{homes-scattered}
use Rattle.scheme.proofs.index.homes.Goals as goal

pub returns : goal.returns
returns c =
    let a = c.args in
    c.scatter_source.ensures ∙
    rw (c.word.ensures.is, c.fill.ensures.after (λ y e. e)) (homes-scattered a.table.now (length a.out.now))
