use Prim.Native.Nat.{◌<◌}
use native.Mathlib.Omega.{arith}
use lib.ListN.{length, drop_of_length-le}
use Rattle.process.proofs.Listed.{left-more, left_end, one-listed}
use Rattle.rewriting.proofs.Laws.Stored.{below, drop-more}
use Rattle.rewriting.proofs.words.write_all.Goals as goal

pub overflow_cast-word : goal.overflow_cast-word
overflow_cast-word g c =
    let l = c.loop-word in
    let h : l.word-index < length c.args.words = omega (arith, c.loop-word-test.true) in
    omega (arith, below 65536 c.args.words l.word-index h c.requires.2)

pub loop-word-preserved : goal.loop-word-preserved
loop-word-preserved g c =
    let l = c.loop-word in
    let h : l.word-index < length c.args.words = omega (arith, c.loop-word-test.true) in (
      left-more _ _ _ _ _ _ l.invariant.0 _ _ _ _ _ (drop-more c.args.words l.word-index h) (one-listed _ _ _ _ c.store.ensures),
      omega (arith, l.invariant.1),
    )

pub returns : goal.returns
returns g c =
    let l = c.loop-word in
    left_end _ _ _ _ _ _ l.invariant.0 4 (drop_of_length-le c.args.words (omega (arith, c.loop-word-test.false)))
    (omega (arith, l.invariant.1, l.auto.word-index-end, c.requires.1))
