-- `rewriting::words::write_front` meets its contract.
use Rattle.rewriting.proofs.Laws.Sections.{front-listed}
use Rattle.rewriting.proofs.words.write_front.Goals as goal

pub returns : goal.returns
returns c =
    let a = c.args in
    let p = c.requires.counted in
    front-listed a.table.now a.list.now a.copies p.rows a.counts p.summed _ _ _ _ _ _
    c.word.ensures.is c.word-2.ensures.is c.word-3.ensures.is c.word-4.ensures.is c.word-5.ensures.is c.word-6.ensures.is
    _ _ _ _ _ _ _ _ _ _ _ _ _
    c.write_header-at.ensures c.write_words-at.ensures c.write_copies-at.ensures c.write_words-at-2.ensures c.write_copies-at-2.ensures
    c.write_words.ensures
