use native.Mathlib.Omega.{arith}
use Rattle.readback.proofs.Noting.{in_order, find-fits, note-none, sum-small, note-later, note-first, index-small}
use Rattle.readback.proofs.spots.note.Goals as goal

pub overflow_sub-node_start : goal.overflow_sub-node_start
overflow_sub-node_start c =
    in_order _ _ _ _ _ _ _ c.requires _ _ (record { count = 0; first = 0 }) c.node_start-start.ensures.is c.node_start.ensures.is

pub find-f-requires : goal.find-f-requires
find-f-requires c = (
  c.node_start-start.ensures.small,
  find-fits _ _ _ _ _ _ _ c.requires _ _ (record { count = 0; first = 0 }) c.node_start-start.ensures.is c.node_start.ensures.is,
)

pub returns-then-f-eq0 : goal.returns-then-f-eq0
returns-then-f-eq0 c =
    note-none _ _ _ _ _ _ _ c.requires _ _ c.find-f.result c.node_start-start.ensures.is c.node_start.ensures.is
    c.find-f.ensures
    c.if-f-eq0.true

pub overflow_add-before : goal.overflow_add-before
overflow_add-before c =
    omega (
      arith,
      sum-small _ _ _ _ _ _ _ c.requires _ _ c.find-f.result c.node_start-start.ensures.is c.node_start.ensures.is
          c.find-f.ensures _ c.node_thread-thread.ensures.is
          _ c.word-before.ensures.is,
    )

pub overflow_cast-before : goal.overflow_cast-before
overflow_cast-before c =
    omega (
      arith,
      sum-small _ _ _ _ _ _ _ c.requires _ _ c.find-f.result c.node_start-start.ensures.is c.node_start.ensures.is
          c.find-f.ensures _ c.node_thread-thread.ensures.is
          _ c.word-before.ensures.is,
    )

pub returns-then-before-ne0 : goal.returns-then-before-ne0
returns-then-before-ne0 c =
    rw c.store.ensures
    (note-later _ _ _ _ _ _ _ c.requires _ _ c.find-f.result c.node_start-start.ensures.is c.node_start.ensures.is
    c.find-f.ensures _ c.node_thread-thread.ensures.is
    _ c.word-before.ensures.is c.if-before-ne0.true)

pub overflow_cast-f : goal.overflow_cast-f
overflow_cast-f c =
    omega (
      arith,
      index-small _ _ _ _ _ _ _ c.requires _ _ c.find-f.result c.node_start-start.ensures.is c.node_start.ensures.is
          c.find-f.ensures c.if-f-eq0.false,
    )

pub returns : goal.returns
returns c =
    rw (c.store.ensures, c.store-2.ensures, c.store-3.ensures)
    (note-first _ _ _ _ _ _ _ c.requires _ _ c.find-f.result c.node_start-start.ensures.is c.node_start.ensures.is
    c.find-f.ensures _ c.node_thread-thread.ensures.is
    _ c.word-before.ensures.is c.if-before-ne0.false c.if-f-eq0.false)
