use Rattle.std.proofs.Common.{◌+◌, ◌*◌, ◌∙◌, arith}
use Rattle.lists.specs.Lists.{word}
use Rattle.places.specs.Sides.{heard_at}
use Rattle.places.proofs.Bits.{one_shifted}
use Rattle.places.proofs.Noting.{note-adds}
use Rattle.places.proofs.pairs.note.Goals as goal

pub returns : goal.returns
returns c =
    let a = c.args in
    note-adds a.words.now c.spread.new.words c.join.new.words c.spread.result c.join.result a.k c.values_of-e.result
    c.word-3.result (word a.list.now (8 * a.k + 1)) _ (heard_at a.list.now a.k)
    (c.values_of-e.ensures ∙ rw (c.word-2.ensures.is, c.word.ensures.is)) c.word-3.ensures.is
    (one_shifted a.k (omega (arith, c.requires))) c.spread.ensures c.join.ensures
