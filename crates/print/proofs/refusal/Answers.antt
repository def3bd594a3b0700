use Rattle.print.specs.Text.{refusal}
use Rattle.print.proofs.Writing.{counted-long, counted-written}
use Rattle.print.proofs.refusal.Goals as goal

pub returns-then-line-out : goal.returns-then-line-out
returns-then-line-out c =
    let b = c.begin-start.ensures in
    counted-long (refusal c.args.number) c.args.out.now _ _ (rw (b.0, b.1) at c.put_refusal-line.ensures) c.if-line-out.true

pub returns : goal.returns
returns c =
    let b = c.begin-start.ensures in
    counted-written (refusal c.args.number) c.args.out.now _ _ (rw (b.0, b.1) at c.put_refusal-line.ensures) _ c.if-line-out.false
    (rw (b.0, b.1) at c.put_refusal-end.ensures)
