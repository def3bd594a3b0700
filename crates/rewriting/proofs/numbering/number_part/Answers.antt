use Rattle.rewriting.proofs.Laws.Placed.{numberable}
use Rattle.rewriting.proofs.numbering.number_part.Goals as goal

pub number-requires : goal.number-requires
number-requires c = rw (c.originals.ensures, c.start.ensures) (numberable _ _ c.requires.0 c.args.part _ c.requires.1)

pub returns : goal.returns
returns c = rw (← c.originals.ensures, ← c.start.ensures) c.number.ensures
