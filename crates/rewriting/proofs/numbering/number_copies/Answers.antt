use Rattle.rewriting.proofs.Laws.Placed.{all_placed}
use Rattle.rewriting.proofs.numbering.number_copies.Goals as goal

pub returns : goal.returns
returns c =
    all_placed c.args.list.now c.args.copies c.requires.0 _ _ _ _ _ _ c.number_part.ensures c.number_part-2.ensures c.number_part-3.ensures
    c.number_part-4.ensures c.number_part-5.ensures
