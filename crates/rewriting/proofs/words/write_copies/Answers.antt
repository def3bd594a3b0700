use Prim.Native.Nat.{◌≤◌}
use native.Mathlib.Omega.{arith}
use lib.ListN.{length}
use Rattle.process.proofs.Listed.{left-more, left_end}
use Rattle.rewriting.specs.Inner.Writing.{copy_words}
use Rattle.rewriting.proofs.Laws.Placed.{few-copies, few-originals, listing}
use Rattle.rewriting.proofs.Laws.Stored.{flat-drop, flat_end}
use Rattle.rewriting.proofs.words.write_copies.Goals as goal

pub originals-originals-requires : goal.originals-originals-requires
originals-originals-requires c = (c.requires.1.reach, few-copies _ _ _ c.requires.1)

pub loop-i-preserved : goal.loop-i-preserved
loop-i-preserved c =
    let a = c.args in
    let l = c.loop-i in
    let r = c.write_copy-next in (
      left-more _ _ _ _ _ _ l.invariant.0 _ _ _ _ _
          (flat-drop (copy_words a.table.now a.part) c.originals-originals.result.now l.i-index c.loop-i-test.true) r.ensures,
      omega (arith, l.invariant.1, r.ensures.few),
    )

pub returns : goal.returns
returns c =
    let a = c.args in
    let l = c.loop-i in
    let k = few-originals _ _ (listing _ _ _ c.requires.1) a.part in
    let f : length c.originals-originals.result.now ≤ 256 = rw c.originals-originals.ensures k in
    rw (← c.originals-originals.ensures)
    (left_end _ _ _ _ _ _ l.invariant.0 _ (flat_end (copy_words a.table.now a.part) _ l.i-index c.loop-i-test.false)
    (omega (arith, l.invariant.1, l.auto.i-index-end, f)))
