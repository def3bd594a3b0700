use mathlib.Core.Path.{refl, ap, ◌∙◌}
use native.Mathlib.Omega.{arith}
use Rattle.builder.specs.Inner.Writing.{writes}
use Rattle.builder.proofs.Marked.{spots-begin, spots-put, spots-room, spots-few, spots-close}
use Rattle.builder.proofs.marking.initial_spots.Goals as goal

pub loop-t-init : goal.loop-t-init
loop-t-init c = spots-begin c.args.table.now _ c.word-threads.result refl

pub insert-count-requires : goal.insert-count-requires
insert-count-requires c =
    let a = c.args in
    let p = c.requires in
    let l = c.loop-t in
    let t = c.word-threads in
    spots-room a.table.now l.list t.result l.count l.t p.0.accepted t.ensures.is l.invariant
    c.loop-t-test.true

pub loop-t-preserved : goal.loop-t-preserved
loop-t-preserved c =
    let a = c.args in
    let p = c.requires in
    let l = c.loop-t in
    let t = c.word-threads in
    let s = c.insert-count in
    spots-put a.table.now a.index.now t.result l.list c.insert-count.new.list l.count s.result l.t
    c.field1.result c.field4-root.result
    c.node_start.result p.0 t.ensures.is l.invariant c.loop-t-test.true
    c.field1.ensures.is c.field4-root.ensures.is
    c.node_start.ensures.is c.node_start.ensures.small s.ensures c.insert-count.auto.list

pub words-requires : goal.words-requires
words-requires c =
    let a = c.args in
    let p = c.requires in
    let l = c.loop-t in
    let t = c.word-threads in
    (spots-few a.table.now l.list t.result l.count l.t p.0.accepted t.ensures.is l.invariant, omega (arith, p.1))

pub returns : goal.returns
returns c =
    let a = c.args in
    let p = c.requires in
    let l = c.loop-t in
    let t = c.word-threads in
    c.words.ensures.1
    ∙ ap (writes a.out.now a.at)
    (spots-close a.table.now l.list t.result l.count l.t p.0.accepted t.ensures.is l.invariant
    c.loop-t-test.false)
