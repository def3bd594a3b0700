use native.Mathlib.Omega.{arith}
use Rattle.scheme.proofs.Joined.{filled-index}
use Rattle.table.proofs.known.Known.with_index.Goals as goal

pub invariant_of-result : goal.invariant_of-result
invariant_of-result c =
    let k = c.in_ok-fill_accepted.ensures in
    record {
      known = record { accepted = k.0; right = filled-index _ _ _ _ k.1 (omega arith) };
    }
