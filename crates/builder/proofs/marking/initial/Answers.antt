use native.Mathlib.Omega.{arith}
use Rattle.places.proofs.Controls.{few-bounds, few-privates}
use Rattle.places.proofs.Plans.{few-free, few-counted}
use Rattle.builder.proofs.Marked.{rows_few, all-marked}
use Rattle.builder.proofs.marking.initial.Goals as goal

pub count_up-next-requires : goal.count_up-next-requires
count_up-next-requires c =
    let a = c.args in
    let p = c.requires in (
      omega (
        arith,
        c.free_start.ensures.is,
        c.privates.ensures.is,
        few-free a.table.now a.index.now p,
        few-counted a.table.now a.index.now p,
      ),
      omega (arith, c.initial_rows-at.ensures.1),
    )

pub initial_spots-requires : goal.initial_spots-requires
initial_spots-requires c =
    let w = c.args.table.now in
    let p = c.requires in
    let f = rows_few w (few-privates w p.accepted) in (
      p,
      omega (
        arith,
        c.count_up-next.ensures.0,
        c.initial_rows-at.ensures.0,
        f,
        few-bounds w p.accepted,
        few-counted w c.args.index.now p,
        c.privates.ensures.is,
      ),
    )

pub returns : goal.returns
returns c =
    let a = c.args in
    let r = c.initial_rows-at in
    let u = c.count_up-next in
    let s = c.initial_spots in
    all-marked a.table.now a.index.now c.free_start.result
    c.privates.result a.out.now c.initial_rows-at.new.out c.count_up-next.new.out
    c.initial_spots.new.out r.result u.result c.requires c.free_start.ensures.is
    c.privates.ensures.is r.ensures.0 r.ensures.2
    u.ensures.0 u.ensures.1 s.ensures
