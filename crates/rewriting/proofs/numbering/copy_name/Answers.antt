use Rattle.rewriting.proofs.Laws.Placed.{name-number}
use Rattle.rewriting.proofs.numbering.copy_name.Goals as goal

pub returns : goal.returns
returns c = name-number _ _ c.requires _ _ _ c.word.ensures.is c.if-name-word.false c.copied.ensures
