use mathlib.Core.Path.{sym, ap, ◌∙◌}
use Rattle.scheme.specs.Scheme.{scheme}
use Rattle.process.specs.Labels.{step_meaning}
use Rattle.process.proofs.Decoding.{call-there, call_at}
use Rattle.process.proofs.Labelling.{no_call}
use native.Mathlib.Omega.{arith}
use Rattle.std.proofs.lemmas.Grind.{common_steps}
use Rattle.lists.specs.Lists.{same}
use Rattle.process.proofs.labels.call_named.Goals as goal

pub returns-then-not-node_is : goal.returns-then-not-node_is
returns-then-not-node_is c =
    let a = c.args in
    let S = scheme a.table.now in
    ap step_meaning (no_call S a.node a.zero (S.node a.node) (call-there a.table.now a.node ∙ sym c.node_is.ensures ∙ c.if-not-node_is.true))

pub returns : goal.returns
unfolding same
returns c = grind (arith, common_steps, call-there, call_at, no_call)
