use mathlib.Core.Path.{sym, ◌∙◌}
use Rattle.readback.proofs.Showing.{told-stop, told-low, told-high, told-copied, told-argument}
use Rattle.readback.proofs.shown.name_called.Goals as goal

pub returns-then-field3-eq0 : goal.returns-then-field3-eq0
returns-then-field3-eq0 c =
    told-stop _ _ _ _ c.requires _ _ c.field3-d.ensures.is
    c.field4.ensures.is (sym c.field3.ensures.is ∙ c.if-field3-eq0.true)

pub returns-then-name-first : goal.returns-then-name-first
returns-then-name-first c =
    told-low _ _ _ _ c.requires _ _ c.field3-d.ensures.is
    c.field4.ensures.is (λ e. c.if-field3-eq0.false (c.field3.ensures.is ∙ e)) _
    c.field4-first.ensures.is c.if-name-first.true

pub returns-then-field4-place : goal.returns-then-field4-place
returns-then-field4-place c =
    told-high _ _ _ _ c.requires _ _
    c.field3-d.ensures.is c.field4.ensures.is
    (λ e. c.if-field3-eq0.false (c.field3.ensures.is ∙ e)) _
    c.field4-first.ensures.is _ c.field4-2.ensures.is c.if-name-first.false c.if-field4-place.true

pub returns-then-place-copied : goal.returns-then-place-copied
returns-then-place-copied c =
    told-copied _ _ _ _ c.requires _ _
    c.field3-d.ensures.is
    c.field4.ensures.is (λ e. c.if-field3-eq0.false
    (c.field3.ensures.is ∙ e)) _ c.field4-first.ensures.is _
    c.field4-2.ensures.is c.if-name-first.false c.if-field4-place.false c.if-place-copied.true

pub returns : goal.returns
returns c =
    told-argument _ _ _ _ c.requires _ _
    c.field3-d.ensures.is
    c.field4.ensures.is
    (λ e. c.if-field3-eq0.false
    (c.field3.ensures.is ∙ e)) _
    c.field4-first.ensures.is _ c.field4-2.ensures.is
    c.if-name-first.false _ _ c.if-field4-place.false c.if-place-copied.false
    c.field3-2.ensures.is c.field1.ensures.is
