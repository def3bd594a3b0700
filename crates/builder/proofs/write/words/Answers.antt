use mathlib.Core.Path.{refl, sym, ◌∙◌}
use Prim.Native.Nat.{◌+◌}
use native.Mathlib.Omega.{arith}
use lib.ListN.{get_or, length-set}
use Rattle.builder.proofs.Loops.{part-more, part-done}
use Rattle.builder.proofs.write.words.Goals as goal

pub loop-i-preserved : goal.loop-i-preserved
loop-i-preserved c =
    let a = c.args in
    let l = c.loop-i in
    let s = c.store in (
      l.invariant.0 ∙ part-more l.out a.list.now a.at l.i a.count (omega arith) (omega arith) ∙ rw s.ensures,
      rw s.ensures (length-set l.out (a.at + l.i) (get_or a.list.now l.i 0) ∙ l.invariant.1),
    )

pub returns : goal.returns
returns c =
    let a = c.args in
    let l = c.loop-i in
    (refl, sym (l.invariant.0 ∙ part-done l.out a.list.now a.at l.i a.count c.loop-i-test.false))
