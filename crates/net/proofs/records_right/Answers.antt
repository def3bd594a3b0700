use Rattle.std.proofs.Common.{sym, ◌∙◌, arith}
use Rattle.lists.proofs.Ranges.{every_more, every-stop, every-done}
use Rattle.net.proofs.Images.{header, all-records}
use Rattle.net.proofs.records_right.Goals as goal

pub bounds-image-1 : goal.bounds-image-1
bounds-image-1 c = let s = header _ (sym c.header_right.ensures ∙ c.if-not-header_right.false) in omega arith

pub loop-transition-init : goal.loop-transition-init
loop-transition-init c = all-records _

pub record_right-requires : goal.record_right-requires
record_right-requires c = (header _ (sym c.header_right.ensures ∙ c.if-not-header_right.false), c.loop-transition-test.true)

pub returns-then-not-record_right : goal.returns-then-not-record_right
returns-then-not-record_right c =
    sym (rw (sym c.header_right.ensures ∙ c.if-not-header_right.false) (c.loop-transition.invariant
    ∙ every-stop _ _ _ c.loop-transition-test.true (sym c.record_right.ensures ∙ c.if-not-record_right.true)))

pub loop-transition-preserved : goal.loop-transition-preserved
loop-transition-preserved c =
    c.loop-transition.invariant ∙ every_more _ _ _ c.loop-transition-test.true (sym c.record_right.ensures ∙ c.if-not-record_right.false)

pub returns : goal.returns
returns c = sym (rw (sym c.header_right.ensures ∙ c.if-not-header_right.false) (c.loop-transition.invariant ∙ every-done _ _ _ c.loop-transition-test.false))
