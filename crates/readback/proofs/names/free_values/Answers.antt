use mathlib.Core.Path.{sym, ◌∙◌}
use Prim.Native.Nat.{◌<◌}
use native.Mathlib.Omega.{arith}
use Rattle.readback.proofs.Freeing.{marks-none, marks-more, marks-skip}
use Rattle.readback.proofs.names.free_values.Goals as goal
use Rattle.readback.proofs.names.free_values.Goals.{then-is_marked, else-is_marked}

pub loop-n-init : goal.loop-n-init
loop-n-init c = marks-none c.args.marking.now c.free_start-start.result

pub loop-n-preserved : goal.loop-n-preserved
loop-n-preserved c =
    let l = c.loop-n in
    let t = c.loop-n-test.true in
    let marked = sym c.is_marked.ensures in
    let small : l.n < 64 = omega (arith, t, c.privates-count.ensures.is, c.requires) in
    elim c.if-is_marked.branch [
      | then-is_marked w ↦ rw w.set-is
          (marks-more c.args.marking.now c.free_start-start.result l.n l.set l.invariant _ small (marked ∙ w.if-is_marked.true)
          w.with_number-set.ensures)
      | else-is_marked w ↦ rw w.set-is
          (marks-skip c.args.marking.now c.free_start-start.result l.n l.set l.invariant (marked ∙ w.if-is_marked.false))
    ]
