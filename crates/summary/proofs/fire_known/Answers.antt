-- Not enabled, a contact, or the firing.
use Rattle.std.proofs.Common.{ℕ, ◌+◌, List, sym, refl, ap, ◌∙◌, arith}
use Rattle.lists.proofs.Tests.{same-yes, same-no}
use Rattle.net.specs.Image.{record_offset, inputs_at, outputs_at}
use Rattle.net.specs.Firing.{is_enabled, moved}
use Rattle.net.proofs.Images.{both_ascend}
use Rattle.net.proofs.Steps.{step-as, step-off, step-contact, step-made}
use Rattle.summary.specs.Summary.{summary, worked_out, shares}
use Rattle.summary.specs.Calls.{keeps}
use Rattle.summary.specs.Inner.Marks.{missing_in}
use Rattle.summary.proofs.Sound.{asked, few-inputs}
use Rattle.summary.proofs.Entries.{marking-low, enabled-by}
use Rattle.summary.proofs.Answering.{answer-made, lengths-known, keep-made, keep-refused}
use Rattle.summary.proofs.fire_known.Goals as goal

pub arcs_of-arcs-requires : goal.arcs_of-arcs-requires
arcs_of-arcs-requires c = asked _ _ c.requires.0 _ c.requires.2

pub missing-requires : goal.missing-requires
missing-requires c =
    let a = c.arcs_of-arcs.ensures in
    let k = c.type_inv.image (record_offset c.args.image.now c.args.transition + 4) in
    ((both_ascend _ _ _ _ _ a c.requires.0.places).0, few-inputs _ _ _ _ a (omega (arith, k)))

pub returns-then-missing-ne0 : goal.returns-then-missing-ne0
returns-then-missing-ne0 c =
    let p = c.requires in
    let a = c.arcs_of-arcs.ensures in
    let m = c.args.marking.now in
    let s = summary c.args.counts.now c.args.enabled.now in
    let by-count = enabled-by m (inputs_at c.args.image.now c.args.transition) (marking-low _ _ p.3) _ (c.missing.ensures ∙ ap (missing_in m) a.inputs-are) in
    let off = by-count ∙ same-no _ 0 c.if-missing-ne0.true in
    sym (keep-refused c.args.image.now m s c.args.transition p.0.header p.3 (lengths-known _ _ _ p.1) p.2 p.0.records 15
    (step-as _ _ _ p.2 a.right _ _ refl refl ∙ step-off _ _ _ off))

pub contact-requires : goal.contact-requires
contact-requires c =
    let p = c.requires in
    let a = c.arcs_of-arcs.ensures in
    let m = c.args.marking.now in
    let by-count = enabled-by m (inputs_at c.args.image.now c.args.transition) (marking-low _ _ p.3) _ (c.missing.ensures ∙ ap (missing_in m) a.inputs-are) in
    let up = both_ascend _ _ _ _ _ a p.0.places in
    (up.0, up.1, ap (is_enabled m) a.inputs-are ∙ by-count ∙ same-yes _ 0 c.if-missing-ne0.false)

pub returns-then-contact : goal.returns-then-contact
returns-then-contact c =
    let p = c.requires in
    let a = c.arcs_of-arcs.ensures in
    let m = c.args.marking.now in
    let s = summary c.args.counts.now c.args.enabled.now in
    let by-count = enabled-by m (inputs_at c.args.image.now c.args.transition) (marking-low _ _ p.3) _ (c.missing.ensures ∙ ap (missing_in m) a.inputs-are) in
    let on = by-count ∙ same-yes _ 0 c.if-missing-ne0.false in
    let told = c.contact.ensures.1 ∙ rw (a.inputs-are, a.outputs-are) refl in
    ap (λ (l : List ℕ). keeps 16 0 l s) c.contact.ensures.0
    ∙ sym (keep-refused c.args.image.now m s c.args.transition p.0.header p.3 (lengths-known _ _ _ p.1) p.2 p.0.records 16
    (step-as _ _ _ p.2 a.right _ _ refl refl ∙ step-contact _ _ _ on (sym told ∙ c.if-contact.true)))

pub returns : goal.returns
returns c =
    let p = c.requires in
    let a = c.arcs_of-arcs.ensures in
    let m = c.args.marking.now in
    let s = summary c.args.counts.now c.args.enabled.now in
    let by-count = enabled-by m (inputs_at c.args.image.now c.args.transition) (marking-low _ _ p.3) _ (c.missing.ensures ∙ ap (missing_in m) a.inputs-are) in
    let on = by-count ∙ same-yes _ 0 c.if-missing-ne0.false in
    let told = c.contact.ensures.1 ∙ rw (a.inputs-are, a.outputs-are) refl in
    let w = c.args.image.now in
    let t = c.args.transition in
    let I = inputs_at w t in
    let O = outputs_at w t in
    let e = c.contact.ensures.0 in
    let k = c.keep.ensures in
    answer-made _ (moved m I O) _ _ (worked_out w (shares w t) (moved m I O) s)
    (k.0 ∙ ap (λ (l : List ℕ). moved l I O) e)
    (k.1 ∙ ap (λ (l : List ℕ). worked_out w (shares w t) (moved l I O) s) e)
    ∙ sym (keep-made w m s t p.0.header p.3 (lengths-known _ _ _ p.1) p.2 p.0.records (moved m I O)
    (step-as _ _ _ p.2 a.right _ _ refl refl ∙ step-made _ _ _ on (sym told ∙ c.if-contact.false)))
