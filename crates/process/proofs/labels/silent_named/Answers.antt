use mathlib.Core.Path.{sym, ap, ◌∙◌}
use Rattle.scheme.specs.Scheme.{scheme}
use Rattle.process.specs.Labels.{step_meaning}
use Rattle.process.proofs.Decoding.{silent-there, silent-at}
use Rattle.process.proofs.Labelling.{no-silent}
use native.Mathlib.Omega.{arith}
use Rattle.std.proofs.lemmas.Grind.{common_steps}
use Rattle.lists.specs.Lists.{same}
use Rattle.process.proofs.labels.silent_named.Goals as goal

pub returns-then-not-branch_is : goal.returns-then-not-branch_is
returns-then-not-branch_is c =
    let a = c.args in
    let S = scheme a.table.now in
    ap step_meaning (no-silent S a.branch a.zero (S.branch a.branch) (silent-there a.table.now a.branch ∙ sym c.branch_is.ensures ∙ c.if-not-branch_is.true))

pub returns : goal.returns
unfolding same
returns c = grind (arith, common_steps, silent-there, silent-at, no-silent)
