-- A table that is not accepted: every call answers with its cause.
use Rattle.std.specs.Prelude.{◌≡◌, ℕ, List, Result, Ok, Err, IsErrAnd}
use mathlib.Core.Path.{◌∙◌}
use native.Mathlib.Omega.{arith}
use Rattle.lists.proofs.Tests.{same-no}
use Rattle.table.specs.Answer.{cause_number}
use Rattle.table.specs.Causes.{cause}
use Rattle.table.specs.declared.Cause.{Cause}
use Rattle.table.specs.declared.Cause.TheVariants.{Short, Counts, Layout, Kinds, Ranges, Shape, Binding, Scope, Calls}
use Rattle.process.specs.Outcomes.{Outcome, checked}
use Rattle.process.specs.Answers.{outcome_of}
use Rattle.process.specs.declared.Refusal.{Refusal}
use Rattle.process.specs.declared.Refusal.TheVariants.{Table}

-- no cause has the number 0
numbered : (v : Cause) → cause_number v ≡ 0 → ⊥
numbered Short e = omega arith
numbered Counts e = omega arith
numbered Layout e = omega arith
numbered Kinds e = omega arith
numbered Ranges e = omega arith
numbered Shape e = omega arith
numbered Binding e = omega arith
numbered Scope e = omega arith
numbered Calls e = omega arith

pub refused : (w lent : List ℕ) (rest : Outcome) (v : Cause) → cause_number v ≡ cause w → (r : Result ℕ Refusal) → IsErrAnd r (λ q. q ≡ Table v)
    → outcome_of r lent ≡ checked w lent rest
refused w lent rest v e (Ok n) h = absurd h
refused w lent rest v e (Err q) h = rw (h, e, same-no (cause w) 0 (λ z. numbered v (e ∙ z)))
