use mathlib.Core.Path.{sym, ap, ◌∙◌}
use native.Mathlib.Omega.{arith}
use Rattle.table.specs.Answer.{cause_of}
use Rattle.process.specs.Outcomes.{start_outcome}
use Rattle.process.proofs.Refusing.{refused}
use Rattle.process.proofs.NameValues.{start-short, start-written}
use Rattle.process.proofs.start.Goals as goal

pub returns-in_err-check : goal.returns-in_err-check
unfolding start_outcome
returns-in_err-check c = refused _ _ _ _ c.in_err-check.ensures _ c.from_residual.ensures.1

pub returns-then-state-size : goal.returns-then-state-size
returns-then-state-size c = start-short _ _ (sym c.check.ensures ∙ ap cause_of c.in_ok-check.was) (omega (arith, c.word.ensures.is, c.word-2.ensures.is, c.if-state-size.true))

pub returns : goal.returns
returns c = start-written _ _ (sym c.check.ensures ∙ ap cause_of c.in_ok-check.was) _ _ _ (omega (arith, c.word.ensures.is, c.word-2.ensures.is, c.if-state-size.false)) (rw (c.word.ensures.is, c.word-2.ensures.is)) c.write_roots.ensures c.write_unheld.ensures
