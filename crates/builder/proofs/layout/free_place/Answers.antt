use native.Mathlib.Omega.{arith}
use Rattle.places.proofs.Controls.{few-publics, few-privates}
use Rattle.places.proofs.Plans.{few-free}
use Rattle.places.proofs.Names.{free_of}
use Rattle.builder.proofs.layout.free_place.Goals as goal

pub overflow_add-result : goal.overflow_add-result
overflow_add-result c =
    let a = c.args in
    let p = c.requires in
    let w = a.table.now in
    omega (
      arith,
      p.1,
      p.2,
      few-free w a.index.now p.0,
      few-publics w p.0.accepted,
      few-privates w p.0.accepted,
      c.free_start.ensures.is,
      c.word.ensures.is,
    )

pub overflow_cast-result : goal.overflow_cast-result
overflow_cast-result c =
    let a = c.args in
    let p = c.requires in
    let w = a.table.now in
    omega (
      arith,
      p.1,
      p.2,
      few-free w a.index.now p.0,
      few-publics w p.0.accepted,
      few-privates w p.0.accepted,
      c.free_start.ensures.is,
      c.word.ensures.is,
    )

pub returns : goal.returns
returns c =
    let a = c.args in
    let l = c.requires.0 in
    free_of a.table.now l.accepted a.index.now l a.v c.free_start.result c.word.result
    c.free_start.ensures.is c.word.ensures.is
