use mathlib.Core.Path.{sym, ap, ◌∙◌}
use Rattle.scheme.specs.Scheme.{scheme}
use Rattle.process.specs.Labels.{step_meaning}
use Rattle.process.proofs.Decoding.{new-there, new-at}
use Rattle.process.proofs.Labelling.{no-new}
use native.Mathlib.Omega.{arith}
use Rattle.std.proofs.lemmas.Grind.{common_steps}
use Rattle.lists.specs.Lists.{same}
use Rattle.process.proofs.labels.new_named.Goals as goal

pub returns-then-not-node_is : goal.returns-then-not-node_is
returns-then-not-node_is c =
    let a = c.args in
    let S = scheme a.table.now in
    ap step_meaning (no-new S a.node a.name (S.node a.node) (new-there a.table.now a.node ∙ sym c.node_is.ensures ∙ c.if-not-node_is.true))

pub returns : goal.returns
unfolding same
returns c = grind (arith, common_steps, new-there, new-at, no-new)
