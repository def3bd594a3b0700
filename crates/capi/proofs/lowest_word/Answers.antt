use mathlib.Core.Path.{◌∙◌}
use Rattle.capi.proofs.Words.{packed-at}
use Rattle.capi.proofs.lowest_word.Goals as goal

pub returns-in-Some : goal.returns-in-Some
returns-in-Some c = rw c.in-Some.is (c.pack.ensures ∙ packed-at _ _)
