use native.Mathlib.Omega.{arith}
use lib.ListN.{take}
use Prim.Native.Nat.{◌+◌, ◌≤◌}
use lib.ListN.{length}
use Rattle.builder.specs.Inner.Parts.{state, arrow}
use Rattle.builder.proofs.Loops.{arcs-size, put-arrow}
use Rattle.builder.proofs.Writing.{one-room}
use Rattle.builder.proofs.write.transition.Goals.{Start}
use Rattle.builder.proofs.write.transition.Goals as goal

-- there is room for the record and for the arcs
room : (c : Start) → let a = c.args in (a.h.place + 6 ≤ length a.out.now) × (a.h.arc + (a.inputs + a.outputs) ≤ length a.out.now)
room c =
    let a = c.args in
    let p = c.requires in
    let r = one-room (state a.out.now a.h)
    (arrow a.label.kind a.label.a a.label.b (take a.inputs a.ins.now) (take a.outputs a.outs.now)) p.4 in
    (r.0, omega (arith, r.1, arcs-size a.ins.now a.outs.now a.inputs a.outputs p.2 p.3))

pub put_record-requires : goal.put_record-requires
put_record-requires c =
    let a = c.args in
    let p = c.requires in
    let z = arcs-size a.ins.now a.outs.now a.inputs a.outputs p.2 p.3 in
    let m = p.4.arc-small in (
      ((room (goal.at.put_record-requires c).Start)).0,
      p.0,
      p.1,
      omega arith,
      omega arith,
      omega arith,
    )

pub lay-middle-requires : goal.lay-middle-requires
lay-middle-requires c = (
  c.requires.2,
  omega (
    arith,
    ((room (goal.at.lay-middle-requires c).Start)).1,
    c.put_record.auto.out,
  ),
)

pub lay-end-requires : goal.lay-end-requires
lay-end-requires c = (
  c.requires.3,
  omega (
    arith,
    ((room (goal.at.lay-end-requires c).Start)).1,
    c.lay-middle.ensures.0,
    c.lay-middle.auto.out,
    c.put_record.auto.out,
  ),
)

pub returns : goal.returns
returns c =
    let a = c.args in
    let w = c.lay-middle in
    let v = c.lay-end in
    put-arrow a.out.now a.ins.now a.outs.now _ _ _ a.h.place a.h.arc a.label.kind a.label.a a.label.b a.inputs a.outputs
    w.result v.result c.requires.2 c.requires.3 c.put_record.ensures w.ensures.1 w.ensures.0 v.ensures.1 v.ensures.0
