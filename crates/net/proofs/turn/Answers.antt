-- The search ends the run, or a contact does.
use Rattle.std.proofs.Common.{refl}
use Rattle.net.proofs.Runs.{run-nothing, turned-err, turned-malformed, turned-refused}
use Rattle.net.proofs.turn.Goals as goal

pub returns-in_err-transition-clause-turned : goal.returns-in_err-transition-clause-turned
returns-in_err-transition-clause-turned c =
    turned-err _ _ _ _ _ _ c.from_residual.ensures.1 (turned-malformed _ _ _ _ _ c.in_err-transition.ensures.found refl)

pub returns-in_default-clause-turned : goal.returns-in_default-clause-turned
returns-in_default-clause-turned c = λ limit room. run-nothing _ _ _ limit room (rw c.in_default.is at c.in_ok-transition.ensures.found)

pub returns-in_err-fire_enabled-clause-turned : goal.returns-in_err-fire_enabled-clause-turned
returns-in_err-fire_enabled-clause-turned c =
    let f = rw c.in-Some.is at c.in_ok-transition.ensures.found in
    let s = c.in_err-fire_enabled.ensures in
    turned-err _ _ _ _ _ _ c.from_residual-in_err-fire_enabled.ensures.1 (turned-refused _ _ _ _ _ _ f.0 s.0 s.1)
