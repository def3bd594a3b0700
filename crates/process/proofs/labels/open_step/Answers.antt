use mathlib.Core.Path.{sym, ap, ◌∙◌}
use Rattle.process.specs.Inner.Codes.{named}
use Rattle.process.proofs.Labelling.{open_told, open-nothing}
use Rattle.process.proofs.Meanings.{step-told}
use Rattle.process.proofs.labels.open_step.Goals as goal

pub returns-in-Some-Process : goal.returns-in-Some-Process
returns-in-Some-Process c =
    let e = rw c.in-Some-Process.field-0-is at c.in-Some-Process.is in
    rw c.then_some.ensures (open_told _ _ _ _ _ c.is_open.ensures (step-told _ _ _ _ _ (sym (ap named e) ∙ c.named_by.ensures)))

pub returns-in-Some-Bookkeeping : goal.returns-in-Some-Bookkeeping
returns-in-Some-Bookkeeping c =
    let e = rw c.in-Some-Bookkeeping.field-0-is at c.in-Some-Bookkeeping.is in
    open-nothing _ _ _ (step-told _ _ _ _ _ (sym (ap named e) ∙ c.named_by.ensures))

pub returns-in-None : goal.returns-in-None
returns-in-None c = open-nothing _ _ _ (step-told _ _ _ _ _ (sym (ap named c.in-None.is) ∙ c.named_by.ensures))
