use native.Mathlib.Omega.{arith}
use Rattle.places.specs.Places.{equals}
use Rattle.builder.proofs.Chains.{has_value}
use Rattle.builder.proofs.Copying.{read-holds, no_value}
use Rattle.builder.proofs.Filling.{fill-with, fill-without}
use Rattle.builder.proofs.insertion.insert_equals.Goals as goal

pub returns-then-name-word : goal.returns-then-name-word
returns-then-name-word c =
    let a = c.args in
    λ ps f. fill-without a.table.now a.list.now a.count (equals a.name a.v) ps
    (no_value a.table.now a.name a.v (omega (arith, c.word.ensures.is, c.if-name-word.true))) f

pub returns : goal.returns
returns c =
    let a = c.args in
    let w = a.table.now in
    let h = read-holds w a.name a.v (omega (
      arith,
      c.word.ensures.is,
      c.if-name-word.false,
    )) c.requires.1 in
    λ ps f. fill-with w a.list.now _ a.count _ c.equals.result (equals a.name a.v) ps
    (has_value w a.name a.v h) c.equals.ensures c.insert.ensures f
