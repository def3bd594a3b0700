-- 11, then 13.
use Rattle.std.proofs.Common.{sym, ◌∙◌, arith}
use Rattle.net.proofs.Images.{header}
use Rattle.net.proofs.Lent.{lent-image, lent-marking, lent-both}
use Rattle.net.proofs.check.Goals as goal

pub returns-then-not-header_right : goal.returns-then-not-header_right
returns-then-not-header_right c = lent-image _ _ (sym c.header_right.ensures ∙ c.if-not-header_right.true)

pub bounds-image-0 : goal.bounds-image-0
bounds-image-0 c = let s = header _ (sym c.header_right.ensures ∙ c.if-not-header_right.false) in omega arith

pub returns-then-not-marking_right : goal.returns-then-not-marking_right
returns-then-not-marking_right c =
    lent-marking _ _ (sym c.header_right.ensures ∙ c.if-not-header_right.false) (sym c.marking_right.ensures ∙ c.if-not-marking_right.true)

pub returns : goal.returns
returns c = lent-both _ _ (sym c.header_right.ensures ∙ c.if-not-header_right.false) (sym c.marking_right.ensures ∙ c.if-not-marking_right.false)
