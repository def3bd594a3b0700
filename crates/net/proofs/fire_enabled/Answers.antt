-- The record is right and the inputs have their tokens, so only a contact is left to refuse.
use Rattle.std.proofs.Common.{sym, refl, ap, ◌∙◌}
use Rattle.net.specs.Firing.{is_enabled, made}
use Rattle.net.proofs.Images.{both_ascend}
use Rattle.net.proofs.Steps.{step-arcs, step-contact, step-made}
use Rattle.net.proofs.fire_enabled.Goals as goal

pub contact-requires : goal.contact-requires
contact-requires c = both_ascend _ _ _ _ _ c.arcs_of-arcs.ensures c.requires.1

pub returns-then-contact : goal.returns-then-contact
returns-then-contact c =
    let a = c.arcs_of-arcs.ensures in (
      step-arcs _ _ _ c.requires.2 _ _ a
          ∙ step-contact _ _ _ (ap (is_enabled c.args.marking.now) a.inputs-are ∙ c.requires.4) (sym c.contact.ensures ∙ c.if-contact.true),
      refl,
    )

pub move_tokens-requires : goal.move_tokens-requires
move_tokens-requires c = both_ascend _ _ _ _ _ c.arcs_of-arcs.ensures c.requires.1

pub returns : goal.returns
returns c =
    let a = c.arcs_of-arcs.ensures in
    step-arcs _ _ _ c.requires.2 _ _ a
    ∙ step-made _ _ _ (ap (is_enabled c.args.marking.now) a.inputs-are ∙ c.requires.4) (sym c.contact.ensures ∙ c.if-contact.false)
    ∙ ap made (sym c.move_tokens.ensures)
