use mathlib.Core.Path.{sym, ◌∙◌}
use native.Mathlib.Omega.{arith}
use Rattle.places.specs.Places.{equals}
use Rattle.builder.proofs.Pairs.{spot-none, spot-there, public-none, reads-holds, holds-exists}
use Rattle.builder.proofs.communications.spot.Goals as goal

pub returns-then-name-word : goal.returns-then-name-word
returns-then-name-word c =
    let a = c.args in
    let w = a.table.now in
    sym (spot-none w (equals a.name a.v) (public-none w a.name a.v (omega (arith, c.if-name-word.true, c.word.ensures.is))))

pub returns : goal.returns
returns c =
    let a = c.args in
    let w = a.table.now in
    let h = reads-holds w a.name a.v c.requires.1 (omega (arith, c.if-name-word.false, c.word.ensures.is)) in
    c.equals.ensures ∙ sym (spot-there w (equals a.name a.v) (holds-exists w a.name a.v h))
