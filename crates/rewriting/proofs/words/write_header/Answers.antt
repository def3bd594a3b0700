use Rattle.rewriting.proofs.Laws.Sections.{header-listed}
use Rattle.rewriting.proofs.words.write_header.Goals as goal

pub returns : goal.returns
returns c =
    let a = c.args in
    header-listed a.table.now a.counts c.word-publics.result c.word-threads.result c.word-publics.ensures.is
    c.word-threads.ensures.is
    _ _ _ _ _ _ _ _ _ c.write_all-at.ensures c.write_all-at-2.ensures c.write_all-at-3.ensures c.write_all.ensures
