use Rattle.std.proofs.Common.{◌+◌, sym, refl, ap, ◌∙◌, arith}
use Rattle.lists.specs.Lists.{same}
use Rattle.net.specs.Image.{record_offset}
use Rattle.net.proofs.Images.{both_ascend}
use Rattle.summary.specs.Inner.Marks.{missing_in}
use Rattle.summary.proofs.Sound.{asked, few-inputs, afresh-is}
use Rattle.summary.proofs.renew.Goals as goal

pub arcs_of-arcs-requires : goal.arcs_of-arcs-requires
arcs_of-arcs-requires c = asked _ _ c.requires.0 _ c.requires.2

pub is_afresh-requires : goal.is_afresh-requires
is_afresh-requires c = both_ascend _ _ _ _ _ c.arcs_of-arcs.ensures c.requires.0.places

pub returns-then-not-is_afresh : goal.returns-then-not-is_afresh
returns-then-not-is_afresh c =
    let is = afresh-is _ c.args.bytes.now _ _ _ c.arcs_of-arcs.ensures c.args.all in
    rw (is ∙ sym c.is_afresh.ensures ∙ c.if-not-is_afresh.true) refl

pub missing-count-requires : goal.missing-count-requires
missing-count-requires c =
    let a = c.arcs_of-arcs.ensures in
    let k = c.type_inv.image (record_offset c.args.image.now c.args.transition + 4) in
    ((both_ascend _ _ _ _ _ a c.requires.0.places).0, few-inputs _ _ _ _ a (omega (arith, k)))

pub returns : goal.returns
unfolding same
returns c =
    let a = c.arcs_of-arcs.ensures in
    rw (
      afresh-is _ c.args.bytes.now _ _ _ a c.args.all ∙ sym c.is_afresh.ensures ∙ c.if-not-is_afresh.false,
      c.put_bit.ensures,
      c.missing-count.ensures ∙ ap (missing_in c.args.bytes.now) a.inputs-are,
    ) refl
