use Rattle.process.proofs.Decoding.{call-there}
use Rattle.process.proofs.Labelling.{no_copy, copy-below, copy-above, copy-inside}
use native.Mathlib.Omega.{arith}
use Rattle.std.proofs.lemmas.Grind.{common_steps}
use Rattle.process.proofs.labels.copy_named.Goals as goal

pub returns-then-not-node_is : goal.returns-then-not-node_is
returns-then-not-node_is c = grind (arith, common_steps, call-there, no_copy, copy-below, copy-above, copy-inside)

pub returns : goal.returns
returns c = grind (arith, common_steps, call-there, no_copy, copy-below, copy-above, copy-inside)
