use mathlib.Core.Path.{◌∙◌}
use Rattle.readback.proofs.Noting.{all_noted}
use Rattle.readback.proofs.spots.find_spots.Goals as goal

pub returns : goal.returns
returns c =
    let r = all_noted _ c.args.marking.now _ _ _ _ c.note_all.ensures c.word.ensures.is in
    (c.one_each.ensures ∙ r.0, r.1)
