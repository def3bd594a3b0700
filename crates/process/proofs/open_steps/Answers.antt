use mathlib.Core.Path.{sym, ◌∙◌}
use Rattle.process.specs.Outcomes.{open_outcome}
use Rattle.process.proofs.Refusing.{refused}
use Rattle.process.proofs.Fitted.{open-malformed, open-short, open-written}
use Rattle.process.proofs.open_steps.Goals as goal

pub returns-in_err-known : goal.returns-in_err-known
unfolding open_outcome
returns-in_err-known c = refused _ _ _ _ c.in_err-known.ensures.told _ c.from_residual.ensures.1

pub returns-then-not-well_formed : goal.returns-then-not-well_formed
returns-then-not-well_formed c =
    let k = c.in_ok-known.ensures.told in
    open-malformed _ _ _ k.0 (rw k.1 at (sym c.well_formed-2.ensures ∙ c.if-not-well_formed.true))

pub returns-then-labels-size : goal.returns-then-labels-size
returns-then-labels-size c =
    let k = c.in_ok-known.ensures.told in
    open-short _ _ _ k.0 (rw k.1 at (sym c.well_formed-2.ensures ∙ c.if-not-well_formed.false))
    _ _ (rw k.1 at c.list_open-size.ensures) c.if-labels-size.true

pub returns : goal.returns
returns c =
    let k = c.in_ok-known.ensures.told in
    open-written _ _ _ k.0 (rw k.1 at (sym c.well_formed-2.ensures ∙ c.if-not-well_formed.false))
    _ _ (rw k.1 at c.list_open-size.ensures) c.if-labels-size.false
