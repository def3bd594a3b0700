use mathlib.Core.Path.{sym, ap, ◌∙◌}
use native.Mathlib.Omega.{arith}
use Rattle.process.specs.Inner.Codes.{opened}
use Rattle.process.specs.Outcomes.{step_outcome}
use Rattle.process.proofs.Refusing.{refused}
use Rattle.process.proofs.Stepping.{step-malformed, step-shut, step-short, step-written, step-going}
use Rattle.process.proofs.step.Goals as goal

pub returns-in_err-known : goal.returns-in_err-known
unfolding step_outcome
returns-in_err-known c = refused _ _ _ _ c.in_err-known.ensures.told _ c.from_residual.ensures.1

pub returns-then-not-well_formed : goal.returns-then-not-well_formed
returns-then-not-well_formed c =
    let k = c.in_ok-known.ensures.told in
    step-malformed _ _ _ _ _ _ k.0 (rw k.1 at (sym c.well_formed-2.ensures ∙ c.if-not-well_formed.true))

pub returns-in_default : goal.returns-in_default
returns-in_default c =
    let k = c.in_ok-known.ensures.told in
    step-shut _ _ _ _ _ _ k.0 (rw k.1 at (sym c.well_formed-2.ensures ∙ c.if-not-well_formed.false))
    (rw k.1 at (sym (ap opened c.in_default.is) ∙ c.open_step.ensures))

pub returns-then-next-size : goal.returns-then-next-size
returns-then-next-size c =
    let k = c.in_ok-known.ensures.told in
    step-short _ _ _ _ _ _ k.0 (rw k.1 at (sym c.well_formed-2.ensures ∙ c.if-not-well_formed.false))
    c.in-Some.taken (rw k.1 at (sym (ap opened c.in-Some.is) ∙ c.open_step.ensures))
    (omega (arith, c.word.ensures.is, c.word-2.ensures.is, c.if-next-size.true))

pub write_state-requires : goal.write_state-requires
write_state-requires c =
    step-going _ _ _ _ _ c.args.next.now c.in_ok-known.known.known.accepted
    (sym c.well_formed-2.ensures ∙ c.if-not-well_formed.false)
    c.in-Some.taken (sym (ap opened c.in-Some.is) ∙ c.open_step.ensures)

pub returns : goal.returns
returns c =
    let k = c.in_ok-known.ensures.told in
    step-written _ _ _ _ _ _ k.0 (rw k.1 at (sym c.well_formed-2.ensures ∙ c.if-not-well_formed.false))
    c.in-Some.taken (rw k.1 at (sym (ap opened c.in-Some.is) ∙ c.open_step.ensures))
    _ _ (omega (arith, c.word.ensures.is, c.word-2.ensures.is, c.if-next-size.false))
    (rw (c.word.ensures.is, c.word-2.ensures.is)) (rw k.1 at c.write_state.ensures)
