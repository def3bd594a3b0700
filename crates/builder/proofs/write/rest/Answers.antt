use mathlib.Core.Path.{refl, sym, ◌∙◌}
use Prim.Native.Nat.{◌≤◌, ◌<◌}
use native.Mathlib.Omega.{arith}
use lib.ListN.{length, length-set}
use Rattle.builder.specs.Inner.Writing.{sums}
use Rattle.builder.proofs.Loops.{part-more, part-done}
use Rattle.builder.proofs.Series.{sums_at, sums-length}
use Rattle.builder.proofs.write.rest.Goals as goal

pub loop-i-preserved : goal.loop-i-preserved
loop-i-preserved c =
    let a = c.args in
    let p = c.requires in
    let l = c.loop-i in
    let h : l.i < a.count = c.loop-i-test.true in
    let xs = sums a.t a.list.now a.masks.now in
    let n : a.count ≤ length xs = omega (arith, sums-length a.t a.list.now a.masks.now p.3.beside, p.3.enough) in
    let v = sums_at a.t a.list.now a.masks.now l.i (omega (arith, p.3.enough)) (omega (arith, p.3.enough, p.3.beside)) in (
      l.invariant.0 ∙ part-more l.out xs a.at l.i a.count h n ∙ rw v,
      simp length-set l.invariant.1,
    )

pub returns : goal.returns
returns c =
    let a = c.args in
    let l = c.loop-i in
    (refl, sym (l.invariant.0 ∙ part-done l.out (sums a.t a.list.now a.masks.now) a.at l.i a.count c.loop-i-test.false))
