use mathlib.Core.Path.{◌≡◌, ◌∙◌}
use mathlib.Core.List.{◌++◌}
use Rattle.lists.specs.Lists.{range}
use Rattle.rewriting.specs.Outcomes.{origin_at, origin_outcome}
use Rattle.rewriting.specs.Inner.Placing.{origins_of}
use Rattle.rewriting.proofs.Laws.Placed.{few-copies, originals-are}
use Rattle.rewriting.proofs.Laws.Preparation.{prepared-ready, prepared-refused, origin-refused, ready-origin, itself, of-copy, missing}
use Rattle.rewriting.proofs.original.Goals.{After-originals-originals}
use Rattle.rewriting.proofs.original.Goals as goal

-- the originals that were read are the section's
answered : (c : After-originals-originals)
    → origin_at (range c.entries-old.result ++ c.originals-originals.result.now) c.args.number ≡ origin_outcome c.args.table.now (origins_of c.args.table.now c.args.part) c.args.number
answered c =
    let r = prepared-ready _ _ _ _ c.prepare.ensures _ c.in_ok-copies.was in
    rw (c.entries-old.ensures.0, c.originals-originals.ensures, originals-are _ _ _ r.2 c.args.part) (ready-origin _ _ c.args.number r.0)

pub returns-in_err-copies : goal.returns-in_err-copies
returns-in_err-copies c =
    let r = prepared-refused _ _ _ _ c.prepare.ensures _ c.in_err-copies.was in
    origin-refused _ _ r.0 r.1 _ _ _ c.from_residual.ensures.1

pub originals-originals-requires : goal.originals-originals-requires
originals-originals-requires c =
    let r = (prepared-ready _ _ _ _ c.prepare.ensures _ c.in_ok-copies.was).2 in (r.reach, few-copies _ _ _ r)

pub returns-then-number-old : goal.returns-then-number-old
returns-then-number-old c =
    itself _ _ _ c.if-number-old.true ∙ answered (goal.at.returns-then-number-old c).After-originals-originals

pub returns-then-number-old-2 : goal.returns-then-number-old-2
returns-then-number-old-2 c =
    of-copy _ _ _ _ c.if-number-old.false c.if-number-old-2.true c.word.ensures.is ∙ answered (goal.at.returns-then-number-old-2 c).After-originals-originals

pub returns : goal.returns
returns c =
    missing _ _ _ c.if-number-old.false c.if-number-old-2.false ∙ answered (goal.at.returns c).After-originals-originals
