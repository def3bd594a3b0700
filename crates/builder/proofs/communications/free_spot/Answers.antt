use mathlib.Core.Path.{sym, ◌∙◌}
use native.Mathlib.Omega.{arith}
use Rattle.places.specs.Places.{differs}
use Rattle.builder.proofs.Pairs.{spot-none, spot-there, differs_none, differs-exists}
use Rattle.builder.proofs.communications.free_spot.Goals as goal

pub returns-then-v-word : goal.returns-then-v-word
returns-then-v-word c =
    let a = c.args in
    let w = a.table.now in
    sym (spot-none w (differs a.name a.v) (differs_none w a.name a.v (omega (arith, c.if-v-word.true, c.word.ensures.is))))

pub returns : goal.returns
returns c =
    let a = c.args in
    let w = a.table.now in
    let h = c.requires.1 (omega (arith, c.if-v-word.false, c.word.ensures.is)) in
    c.differs.ensures ∙ sym (spot-there w (differs a.name a.v) (differs-exists w a.name a.v h))
