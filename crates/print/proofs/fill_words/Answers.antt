use mathlib.Core.Path.{sym, ◌∙◌}
use native.Mathlib.Omega.{arith}
use Rattle.print.proofs.WordsOf.{words_count, words_more, words-done}
use Rattle.print.proofs.fill_words.Goals as goal

pub loop-i-preserved : goal.loop-i-preserved
loop-i-preserved c =
    let l = c.loop-i in
    let bytes = c.args.bytes.now in
    let store = c.store in
    let low = c.word-low in
    let high = c.word-high in
    (l.invariant.0 ∙ words_more l.out bytes l.i (omega arith) ∙ rw (store.ensures, low.ensures.is, high.ensures.is), store.auto.out ∙ l.invariant.1)

pub returns-clause-out_after : goal.returns-clause-out_after
returns-clause-out_after c =
    let l = c.loop-i in
    let bytes = c.args.bytes.now in
    sym (l.invariant.0 ∙ words-done l.out bytes l.i c.loop-i-test.false)

pub returns-clause-value : goal.returns-clause-value
returns-clause-value c = sym (words_count c.args.bytes.now)
