use Rattle.rewriting.proofs.Laws.Sections.{bodies-listed}
use Rattle.rewriting.proofs.words.write_bodies.Goals as goal

pub returns : goal.returns
returns c =
    bodies-listed _ _ _ c.requires.0.rows _ _ _ _ _ _ c.write_nodes-at.ensures c.write_copies.ensures
