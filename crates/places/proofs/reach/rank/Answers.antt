use Rattle.std.proofs.Common.{arith}
use lib.Count.{ones-le}
use Rattle.places.proofs.Bits.{one_shifted, rank, rank-all, ones-few}
use Rattle.places.proofs.reach.rank.Goals.{then-v-lt64, else-v-lt64}
use Rattle.places.proofs.reach.rank.Goals as goal

pub returns : goal.returns
returns c =
    let s = c.args.set in
    let v = c.args.v in
    elim c.if-v-lt64.branch [
      | then-v-lt64 u ↦ rw (u.below-is, one_shifted v u.if-v-lt64.true) (rank v s, ones-few v s u.if-v-lt64.true)
      | else-v-lt64 u ↦ rw u.below-is (rank-all s v (omega (arith, c.ranges)) u.if-v-lt64.false, ones-le 64 s (omega (arith, c.ranges)))
    ]
