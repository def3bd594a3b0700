use mathlib.Core.Path.{◌≡◌, ◌∙◌}
use Prim.Native.Nat.{◌+◌}
use native.Mathlib.Omega.{arith}
use Rattle.process.proofs.Sets.{sets-fill-more}
use Rattle.process.proofs.write_unheld.Goals as goal

pub loop-i-preserved : goal.loop-i-preserved
loop-i-preserved c =
    let l = c.loop-i in
    let T = c.word-threads.result in
    let e : T + (l.i + 1) ≡ T + l.i + 1 = omega arith in
    l.invariant ∙ sets-fill-more l.out 65535 (T + l.i) l.i _ c.loop-i-test.true ∙ rw (c.store.ensures, e)
