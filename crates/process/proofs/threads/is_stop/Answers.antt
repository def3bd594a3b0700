use Rattle.process.proofs.Decoding.{stop-choice, stop-new, stop-call, stop-else}
use native.Mathlib.Omega.{arith}
use Rattle.std.proofs.lemmas.Grind.{common_steps}
use Rattle.scheme.specs.Scheme.{scheme}
use Rattle.process.proofs.threads.is_stop.Goals as goal

pub returns-then-not-node_is-2 : goal.returns-then-not-node_is-2
unfolding scheme
returns-then-not-node_is-2 c = grind (arith, common_steps, stop-choice, stop-new, stop-call, stop-else)

pub returns-else-not-node_is-2 : goal.returns-else-not-node_is-2
unfolding scheme
returns-else-not-node_is-2 c = grind (arith, common_steps, stop-choice, stop-new, stop-call, stop-else)
