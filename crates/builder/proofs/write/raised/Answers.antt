use mathlib.Core.Path.{◌∙◌}
use Prim.Native.Nat.{◌+◌, ◌≤◌}
use native.Mathlib.Omega.{arith}
use lib.ListN.{length}
use Rattle.builder.specs.Inner.Writing.{sums}
use Rattle.builder.proofs.Series.{sums-length, parts-written}
use Rattle.builder.proofs.write.raised.Goals.{Start}
use Rattle.builder.proofs.write.raised.Goals as goal

-- there are enough numbers
enough : (c : Start) → c.args.count ≤ length (sums c.args.t c.args.list.now c.args.masks.now)
enough c = omega (arith, sums-length c.args.t c.args.list.now c.args.masks.now c.requires.2.beside, c.requires.2.enough)

pub loop-i-preserved : goal.loop-i-preserved
loop-i-preserved c =
    let l = c.loop-i in
    let a = c.args in
    let h = c.loop-i-test.true in (
      l.invariant.0 ∙ parts-written l.out a.at (sums a.t a.list.now a.masks.now) l.i (l.i + 4) a.count (omega arith) (omega arith)
          ((enough (goal.at.loop-i-preserved c).Start)) c.four.new.out c.four.ensures,
      c.four.auto.out ∙ l.invariant.1,
      omega arith,
    )
