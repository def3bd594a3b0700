use Rattle.std.proofs.Common.{rules, arith}
use Rattle.std.proofs.lemmas.Grind.{common_steps}
use Rattle.lists.specs.Lists.{same}
use Rattle.process.specs.StateWords.{is_well_formed}
use Rattle.scheme.specs.Scheme.{scheme}
use Rattle.table.proofs.Accepted.{accepted}
use Rattle.process.proofs.formed.well_formed.Goals as goal

pub is_numbered-requires : goal.is_numbered-requires
unfolding scheme
is_numbered-requires c =
    let A = accepted _ c.args.known.now.known.accepted in
    record { size = grind (arith, common_steps); few-publics = A.few-publics; few-bounds = A.few-bounds }

pub returns-then-is_numbered : goal.returns-then-is_numbered
unfolding is_well_formed scheme same
returns-then-is_numbered c = search rules

pub returns-else-is_numbered : goal.returns-else-is_numbered
unfolding is_well_formed scheme same
returns-else-is_numbered c = search rules
