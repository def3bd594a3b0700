use native.Mathlib.Omega.{arith}
use Rattle.std.proofs.lemmas.Grind.{common_steps}
use Rattle.process.specs.StateWords.{state_of}
use Rattle.process.proofs.formed.is_held.Goals as goal

pub returns-then-not-is_stop : goal.returns-then-not-is_stop
unfolding state_of
returns-then-not-is_stop c = grind (arith, common_steps)

pub returns-else-not-is_stop : goal.returns-else-not-is_stop
unfolding state_of
returns-else-not-is_stop c = grind (arith, common_steps)
