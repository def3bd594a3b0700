use Rattle.builder.proofs.HeldChains.{starts-rise, stop-room, stop-chained}
use Rattle.builder.proofs.nodes.stop.Goals as goal

pub overflow_sub-c : goal.overflow_sub-c
overflow_sub-c c =
    let a = c.args in
    let p = c.requires in
    starts-rise a.table.now a.index.now p.0 a.n p.1 _ _ c.node_start-first.ensures.is c.node_start.ensures.is

pub release_all-requires : goal.release_all-requires
release_all-requires c =
    let a = c.args in
    let p = c.requires in
    let f = c.node_start-first.ensures.is in
    let g = c.node_start.ensures.is in (
      p.0,
      stop-chained a.table.now a.index.now p.0 a.n p.1 p.2 _ _ f g,
      stop-room a.table.now a.index.now p.0 a.n p.1 p.2 _ _ f g,
      p.3,
    )
