use mathlib.Core.Path.{sym, ap, ◌∙◌}
use Prim.Native.Nat.{◌+◌, ◌-◌}
use Rattle.lists.specs.Lists.{from, flat}
use Rattle.print.specs.Inner.Cursors.{Cursor, write}
use Rattle.print.proofs.Lines.{word_text, words_more, words-done, header-written}
use Rattle.print.proofs.put_header.Goals as goal

pub loop-i-preserved : goal.loop-i-preserved
loop-i-preserved c =
    let l = c.loop-i in
    let image = c.args.image.now in
    let put = c.put_word-p in (
      l.invariant.0
          ∙ words_more _ image l.i 5 c.loop-i-test.true
          ∙ ap (λ (d : Cursor). write d (flat (word_text image) (from (l.i + 1) (5 - (l.i + 1))))) (sym put.ensures),
      put.auto.out ∙ l.invariant.1,
    )

pub returns : goal.returns
returns c =
    header-written
    c.args.image.now
    _
    (c.put_decimal-p.ensures ∙ rw c.word.ensures.is)
    (sym (c.loop-i.invariant.0 ∙ words-done _ _ _ _ c.loop-i-test.false))
    c.put.ensures
