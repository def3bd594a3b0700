use Rattle.process.proofs.Labelling.{no-partners, partners-open, stand-there}
use native.Mathlib.Omega.{arith}
use Rattle.std.proofs.lemmas.Grind.{common_steps}
use Rattle.process.proofs.labels.can_meet.Goals as goal

pub returns-then-stands-2 : goal.returns-then-stands-2
returns-then-stands-2 c = grind (arith, common_steps, no-partners, partners-open, stand-there)

pub returns-else-stands-2 : goal.returns-else-stands-2
returns-else-stands-2 c = grind (arith, common_steps, no-partners, partners-open, stand-there)
