use Rattle.std.proofs.Common.{arith, rules}
use Rattle.summary.proofs.Tested.{put-past, put-bit-is}
use Rattle.summary.proofs.bits.put_bit.Goals as goal

pub returns-then-enabled-i : goal.returns-then-enabled-i
returns-then-enabled-i c =
    let a = c.args in
    put-past a.enabled.now a.transition a.on (λ j. omega (arith, c.type_inv.enabled j)) c.if-enabled-i.true

pub returns : goal.returns
returns c =
    let a = c.args in
    put-bit-is a.enabled.now a.transition c.with_bit.result a.on
    (search rules) (omega (arith, c.if-enabled-i.false))
    c.with_bit.ensures.0 c.with_bit.ensures.1
