-- Each return is one test of the definition, in its order.
use Rattle.std.proofs.Common.{sym, ◌∙◌}
use Rattle.net.proofs.Images.{both_ascend}
use Rattle.net.proofs.Steps.{step-off, step-contact, step-made, step-none, step-wrong, step-arcs}
use Rattle.net.proofs.fireable.Goals as goal

pub returns-then-count-transition : goal.returns-then-count-transition
returns-then-count-transition c = step-none _ _ _ c.if-count-transition.true

pub returns-in_default : goal.returns-in_default
returns-in_default c = step-wrong _ _ _ c.if-count-transition.false c.in_default.ensures

pub all_marked-requires : goal.all_marked-requires
all_marked-requires c = (both_ascend _ _ _ _ _ c.in-Some.ensures c.requires.1).0

pub returns-then-not-all_marked : goal.returns-then-not-all_marked
returns-then-not-all_marked c =
    step-arcs _ _ _ c.if-count-transition.false _ _ c.in-Some.ensures ∙ step-off _ _ _ (sym c.all_marked.ensures ∙ c.if-not-all_marked.true)

pub contact-requires : goal.contact-requires
contact-requires c = both_ascend _ _ _ _ _ c.in-Some.ensures c.requires.1

pub returns-then-contact : goal.returns-then-contact
returns-then-contact c =
    step-arcs _ _ _ c.if-count-transition.false _ _ c.in-Some.ensures
    ∙ step-contact _ _ _ (sym c.all_marked.ensures ∙ c.if-not-all_marked.false) (sym c.contact.ensures ∙ c.if-contact.true)

pub returns : goal.returns
returns c = (
  c.in-Some.ensures,
  step-arcs _ _ _ c.if-count-transition.false _ _ c.in-Some.ensures
      ∙ step-made _ _ _ (sym c.all_marked.ensures ∙ c.if-not-all_marked.false) (sym c.contact.ensures ∙ c.if-contact.false),
)
