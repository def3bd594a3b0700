use native.Mathlib.Omega.{arith}
use Rattle.print.proofs.WordsOf.{words_count}
use Rattle.print.proofs.Writing.{no_room, all-stands}
use Rattle.print.proofs.words.Goals as goal

pub returns-then-out-bytes : goal.returns-then-out-bytes
returns-then-out-bytes c =
    let a = c.args in
    no_room _ a.out.now (omega (arith, words_count a.bytes.now, c.if-out-bytes.true))

pub returns : goal.returns
returns c =
    let a = c.args in
    let filled = c.fill_words in
    let n = words_count a.bytes.now in
    all-stands _ a.out.now _ _ (omega (arith, n, c.if-out-bytes.false)) filled.ensures.value filled.ensures.out_after
