-- 11, 13, then the run itself.
use Rattle.std.proofs.Common.{refl, sym}
use Rattle.net.proofs.Images.{header}
use Rattle.net.proofs.Lent.{both_right}
use Rattle.net.proofs.Steps.{marking-length}
use Rattle.net.proofs.Runs.{run_refused, run-as, leaves-at-once, leaves-as}
use Rattle.net.proofs.run_checked.Goals as goal

pub returns-in-Err : goal.returns-in-Err
returns-in-Err c = leaves-at-once _ _ _ _ (run_refused _ _ _ _ _ _ c.in-Err.ensures) refl

pub run_on-requires : goal.run_on-requires
run_on-requires c = let r = both_right _ _ (sym c.in_default.ensures) in (header _ r.header, marking-length _ _ r.marking)

pub returns : goal.returns
returns c = let r = both_right _ _ (sym c.in_default.ensures) in leaves-as _ _ _ _ _ _ (run-as _ _ _ _ _ r.header r.marking) c.run_on.ensures
