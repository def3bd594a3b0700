use mathlib.Core.Path.{sym, ◌∙◌}
use native.Mathlib.Omega.{arith}
use Rattle.scheme.specs.Index.{owners_in, homes_in}
use Rattle.scheme.proofs.Indexed.{small-definition}
use Rattle.scheme.proofs.index.definition_word.Goals as goal

pub overflow_cast-result : goal.overflow_cast-result
overflow_cast-result c =
    let a = c.args in
    omega (
      arith,
      small-definition (owners_in a.index.now) (homes_in a.index.now) a.node c.in-Definition.d
          (sym c.step_up.ensures ∙ c.in-Definition.is),
    )
