use mathlib.Core.Path.{◌∙◌}
use lib.ListN.{length}
use Rattle.scheme.proofs.Scatter.{owners-scattered}
use Rattle.scheme.proofs.index.owners.Goals as goal

pub returns : goal.returns
returns c =
    let a = c.args in
    c.scatter_source-3.ensures ∙
    rw (
      c.word-3.ensures.is,
      c.scatter_source-2.ensures,
      c.word-2.ensures.is,
      c.scatter_source.ensures,
      c.word.ensures.is,
      c.fill.ensures.after (λ y e. e),
    ) (owners-scattered a.table.now (length a.out.now))
