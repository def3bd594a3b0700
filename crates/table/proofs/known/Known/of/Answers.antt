use mathlib.Core.Path.{sym, ap, ◌∙◌}
use native.Mathlib.Omega.{arith}
use Rattle.scheme.proofs.Joined.{filled-index}
use Rattle.table.specs.Answer.{cause_of}
use Rattle.table.proofs.known.Known.of.Goals as goal

pub invariant_of-result : goal.invariant_of-result
invariant_of-result c = record {
  known = record {
    accepted = sym c.check.ensures ∙ ap cause_of c.in_ok-check.was;
    right = filled-index _ _ _ _ c.fill.ensures (omega (arith, c.fits-index, c.told-index));
  };
}
