use mathlib.Core.Path.{ap, ◌∙◌}
use Prim.Native.Nat.{ℕ}
use Rattle.capi.specs.Returned.{packed}
use Rattle.capi.proofs.Words.{packed-number}
use Rattle.capi.proofs.dekohuna_summary_number.Goals as goal

pub returns : goal.returns
returns c = c.pack.ensures ∙ ap (λ (n : ℕ). packed n 0) c.number.ensures ∙ packed-number _
