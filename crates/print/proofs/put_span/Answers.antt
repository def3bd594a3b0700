use mathlib.Core.Path.{sym, ap, ◌∙◌}
use Prim.Native.Nat.{◌+◌}
use native.Mathlib.Omega.{arith}
use lib.Seq.{slice}
use Rattle.lists.specs.Lists.{flat}
use Rattle.print.specs.Text.{numbers, spaced}
use Rattle.print.specs.Inner.Cursors.{Cursor, write}
use Rattle.print.proofs.Lines.{span_more, span-done}
use Rattle.print.proofs.Writing.{write-stopped}
use Rattle.print.proofs.put_span.Goals as goal

pub returns-then-p : goal.returns-then-p
returns-then-p c = sym (c.loop-i.invariant.0 ∙ write-stopped _ _ c.if-p.true)

pub loop-i-preserved : goal.loop-i-preserved
loop-i-preserved c =
    let l = c.loop-i in
    let image = c.args.image.now in
    let last = c.min-last.result in
    let put = c.put_word-p in (
      l.invariant.0
          ∙ span_more _ image l.i last (omega arith) (omega arith)
          ∙ ap (λ (d : Cursor). write d (flat spaced (numbers (slice (l.i + 1) last image)))) (sym put.ensures),
      put.auto.out ∙ l.invariant.1,
    )

pub returns : goal.returns
returns c = sym (c.loop-i.invariant.0 ∙ span-done _ _ _ _ c.loop-i-test.false)
