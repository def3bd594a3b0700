use mathlib.Core.Path.{refl, sym, ◌∙◌}
use Prim.Native.Nat.{◌+◌}
use native.Mathlib.Omega.{arith}
use lib.ListN.{length-set}
use Rattle.scheme.proofs.Indexed.{sets_more, sets-done}
use Rattle.scheme.proofs.lookup.write_span.Goals as goal

pub loop-i-preserved : goal.loop-i-preserved
loop-i-preserved c =
    let a = c.args in
    let l = c.loop-i in
    let s = c.store in
    (l.invariant.0 ∙ sets_more l.out a.first l.i a.count (omega arith) ∙ rw s.ensures, rw s.ensures (length-set l.out l.i (a.first + l.i) ∙ l.invariant.1))

pub returns : goal.returns
returns c =
    let a = c.args in
    let l = c.loop-i in
    (refl, sym (l.invariant.0 ∙ sets-done l.out a.first l.i a.count c.loop-i-test.false))
