use Rattle.process.proofs.Labelling.{no-release-choice, no-release-new, release-held}
use native.Mathlib.Omega.{arith}
use Rattle.std.proofs.lemmas.Grind.{common_steps}
use Rattle.process.proofs.labels.release_named.Goals as goal

pub returns-then-node_is : goal.returns-then-node_is
returns-then-node_is c = grind (arith, common_steps, no-release-choice, no-release-new, release-held)

pub returns : goal.returns
returns c = grind (arith, common_steps, no-release-choice, no-release-new, release-held)
