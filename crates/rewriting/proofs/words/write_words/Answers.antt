use mathlib.Core.Path.{◌≡◌, refl}
use Prim.Native.Nat.{◌+◌}
use native.Mathlib.Nat.{sub-zero, add-zero}
use native.Mathlib.Omega.{arith}
use Rattle.lists.specs.Lists.{word}
use Rattle.process.proofs.Listed.{left-start, left_end}
use Rattle.rewriting.proofs.Laws.Stored.{left-image, images-none, words-from}
use Rattle.rewriting.proofs.words.write_words.Goals as goal

pub loop-i-init : goal.loop-i-init
loop-i-init c =
    let a = c.args in
    rw (sub-zero a.count, words-from a.table.now a.first a.count, add-zero a.at) (left-start _ _ _ _ refl)

pub loop-i-preserved : goal.loop-i-preserved
loop-i-preserved c =
    let a = c.args in
    let l = c.loop-i in
    left-image (λ k. word a.table.now (a.first + k)) _ _ _ a.at a.count _ _ l.i c.loop-i-test.true l.invariant
    (rw (← c.word.ensures.is) c.store.ensures)

pub returns : goal.returns
returns c =
    let a = c.args in
    let l = c.loop-i in
    let e : a.at + l.i ≡ a.at + a.count = omega (arith, l.auto.i-end, c.loop-i-test.false) in
    rw e at
    (left_end _ _ _ _ _ _ l.invariant 262144 (images-none (λ k. word a.table.now (a.first + k)) l.i a.count c.loop-i-test.false)
    (omega (arith, l.auto.i-end, c.requires.1)))
