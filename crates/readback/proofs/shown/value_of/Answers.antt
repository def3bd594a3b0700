use native.Mathlib.Omega.{arith}
use Rattle.readback.proofs.Showing.{value-missing, value-word}
use Rattle.readback.proofs.shown.value_of.Goals as goal

pub returns-then-name-eq65535 : goal.returns-then-name-eq65535
returns-then-name-eq65535 c =
    value-missing c.args.table.now c.args.values.now c.args.name
    c.if-name-eq65535.true

pub returns : goal.returns
returns c =
    value-word c.args.table.now c.args.values.now
    c.args.name _ c.if-name-eq65535.false (omega (
      arith,
      c.word.ensures.is,
      c.if-name-word.false,
    )) c.word-2.ensures.is c.word-2.ensures.small
