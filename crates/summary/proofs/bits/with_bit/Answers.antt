use Rattle.std.proofs.Common.{◌^◌, sym, ◌∙◌, arith}
use lib.Bits.{or_lt}
use lib.Pow.{pow-lt}
use Rattle.summary.proofs.Digits.{set-bit, out-bit, no-bit, bit-within, one_shifted}
use Rattle.summary.proofs.bits.with_bit.Goals as goal

pub returns-then-on : goal.returns-then-on
returns-then-on c =
    let a = c.args in
    rw (one_shifted a.k c.requires, c.if-on.true)
    (or_lt 64 a.word (2 ^ a.k) (omega (arith, c.ranges)) (pow-lt c.requires), λ j. set-bit a.k j a.word)

pub overflow_sub-result : goal.overflow_sub-result
overflow_sub-result c =
    let a = c.args in
    rw (one_shifted a.k c.requires) (bit-within a.word a.k (sym c.bit_of.ensures ∙ c.if-bit_of.true))

pub returns-then-bit_of : goal.returns-then-bit_of
returns-then-bit_of c =
    let a = c.args in
    rw (one_shifted a.k c.requires, c.if-on.false)
    (omega (arith, c.ranges), λ j. out-bit a.k j a.word (sym c.bit_of.ensures ∙ c.if-bit_of.true))

pub returns : goal.returns
returns c =
    let a = c.args in
    rw c.if-on.false (omega (arith, c.ranges), λ j. no-bit a.k j a.word (sym c.bit_of.ensures ∙ c.if-bit_of.false))
