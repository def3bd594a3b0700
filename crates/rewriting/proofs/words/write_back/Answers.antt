use Rattle.rewriting.proofs.Laws.Sections.{back-listed}
use Rattle.rewriting.proofs.words.write_back.Goals as goal

pub returns : goal.returns
returns c =
    back-listed c.args.table.now c.args.list.now c.args.copies c.requires.0.rows _ _ _ _ c.word.ensures.is
    c.word-2.ensures.is c.word-3.ensures.is c.word-4.ensures.is
    _ _ _ _ _ _ _ _ _ _ c.write_words-at.ensures c.write_copies-at.ensures c.write_words-at-2.ensures c.write_copies.ensures
