use Rattle.std.proofs.Common.{◌+◌, ap, ◌∙◌, arith}
use Rattle.net.specs.Image.{record_offset}
use Rattle.net.proofs.Images.{both_ascend}
use Rattle.summary.specs.Inner.Marks.{missing_in}
use Rattle.summary.proofs.Sound.{asked, few-inputs}
use Rattle.summary.proofs.missing_at.Goals as goal

pub arcs_of-requires : goal.arcs_of-requires
arcs_of-requires c = asked _ _ c.requires.0 _ c.requires.1

pub missing-requires : goal.missing-requires
missing-requires c =
    let a = c.arcs_of.ensures in
    let k = c.type_inv.image (record_offset c.args.image.now c.args.transition + 4) in
    ((both_ascend _ _ _ _ _ a c.requires.0.places).0, few-inputs _ _ _ _ a (omega (arith, k)))

pub returns : goal.returns
returns c = c.missing.ensures ∙ ap (missing_in c.args.bytes.now) c.arcs_of.ensures.inputs-are
