use mathlib.Core.Path.{sym, ap, ◌∙◌}
use Prim.Native.Nat.{◌+◌}
use lib.ListN.{drop}
use Rattle.print.specs.Inner.Cursors.{Cursor, write}
use Rattle.print.proofs.Writing.{copy_more, copy_done}
use Rattle.print.proofs.copy.Goals as goal

pub loop-byte-preserved : goal.loop-byte-preserved
loop-byte-preserved c =
    let l = c.loop-byte in
    let text = c.args.text.now in
    let put = c.put-p in (
      l.invariant.0 ∙ copy_more _ text l.byte-index c.loop-byte-test.true ∙ ap (λ (d : Cursor). write d (drop (l.byte-index + 1) text)) (sym put.ensures),
      put.auto.out ∙ l.invariant.1,
    )

pub returns : goal.returns
returns c = sym (c.loop-byte.invariant.0 ∙ copy_done _ _ _ c.loop-byte-test.false)
