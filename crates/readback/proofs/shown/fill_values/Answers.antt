use Prim.Native.Nat.{◌<◌}
use native.Mathlib.Omega.{arith}
use lib.ListN.{length}
use Rattle.process.proofs.Numbering.{fill_none, fill_more}
use Rattle.places.proofs.Controls.{few-bounds}
use Rattle.readback.proofs.Showing.{shown_value}
use Rattle.readback.proofs.shown.fill_values.Goals as goal

pub loop-i-init : goal.loop-i-init
loop-i-init c =
    let a = c.args in
    fill_none (shown_value a.table.now a.nodes.now a.indexes.now a.values.now) c.word-publics.result

pub loop-i-preserved : goal.loop-i-preserved
loop-i-preserved c =
    let a = c.args in
    let l = c.loop-i in
    let k : l.i < length l.list =
    omega (arith, l.auto.list, c.requires.2, c.word-bounds.ensures.is, few-bounds _ c.requires.0.accepted, c.loop-i-test.true) in
    rw c.store.ensures
    (fill_more (shown_value a.table.now a.nodes.now a.indexes.now a.values.now) c.word-publics.result l.i c.name_value.result l.list k
    c.name_value.ensures.is l.invariant)
