use Rattle.std.proofs.Common.{sym, refl, ◌∙◌, arith, le-ltb}
use Rattle.lists.specs.Lists.{same}
use Rattle.places.specs.Sets.{bit_at}
use Rattle.places.proofs.Bits.{bit_past}
use Rattle.places.proofs.reach.has.Goals as goal

pub returns-then-v-lt64 : goal.returns-then-v-lt64
unfolding bit_at same
returns-then-v-lt64 c = refl

pub returns-else-v-lt64 : goal.returns-else-v-lt64
returns-else-v-lt64 c =
    le-ltb c.args.v 64 c.if-v-lt64.false ∙ sym (bit_past 64 c.args.set c.args.v (omega (arith, c.ranges)) c.if-v-lt64.false)
