use mathlib.Core.Path.{◌∙◌}
use Rattle.lists.proofs.Tests.{same-yes, same-no}
use Rattle.builder.proofs.insertion.insert_spot.Goals as goal

pub returns-then-x-eq-NO_SPOT : goal.returns-then-x-eq-NO_SPOT
returns-then-x-eq-NO_SPOT c =
    let e = same-yes c.args.x 4294967295 c.if-x-eq-NO_SPOT.true in
    record { size = rw e; first = rw e }

pub returns : goal.returns
returns c =
    let e = same-no c.args.x 4294967295 c.if-x-eq-NO_SPOT.false in
    let i = c.insert.ensures in
    record { size = i.size ∙ rw e; first = i.first ∙ rw e }
