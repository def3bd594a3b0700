use mathlib.Core.Path.{◌≡◌, sym, ◌∙◌}
use mathlib.Core.Bool.{true, false, not}
use native.Mathlib.Omega.{arith}
use Rattle.lists.specs.Lists.{same}
use Rattle.places.proofs.Names.{reached-count}
use Rattle.builder.proofs.layout.value_count.Goals as goal

pub returns-then-has_privates : goal.returns-then-has_privates
returns-then-has_privates c =
    let a = c.args in
    let t : not (same a.values.restricted 0) ≡ true = sym c.has_privates.ensures ∙ c.if-has_privates.true in
    sym (reached-count a.publics a.privates a.values ∙ rw t (omega (arith, c.rank-count.ensures.0)))

pub returns-else-has_privates : goal.returns-else-has_privates
returns-else-has_privates c =
    let a = c.args in
    let t : not (same a.values.restricted 0) ≡ false = sym c.has_privates.ensures ∙ c.if-has_privates.false in
    sym (reached-count a.publics a.privates a.values ∙ rw t (omega (arith, c.rank-count.ensures.0)))
