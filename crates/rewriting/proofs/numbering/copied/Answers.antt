use Rattle.rewriting.proofs.Laws.Placed.{copy-number}
use Rattle.rewriting.proofs.numbering.copied.Goals as goal

pub returns : goal.returns
returns c =
    copy-number _ _ c.requires c.args.part _ _ _ c.entries.ensures.0 c.place.ensures.0
