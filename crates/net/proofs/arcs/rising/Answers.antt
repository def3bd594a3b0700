use Rattle.std.proofs.Common.{◌+◌, ◌<◌, length, sym, ◌∙◌, arith}
use Rattle.net.proofs.Marks.{not_empty, rises-none, rises-first, rises_next, rises-no-more, rises-whole}
use Rattle.net.proofs.arcs.rising.Goals as goal
use Rattle.net.proofs.arcs.rising.Goals.{then-words-i, else-words-i}

pub returns-then-is_empty : goal.returns-then-is_empty
returns-then-is_empty c = rises-none _ _ c.if-is_empty.ensures

pub loop-i-init : goal.loop-i-init
loop-i-init c = rises-first _ _ (not_empty _ c.if-is_empty.ensures)

pub loop-i-preserved : goal.loop-i-preserved
loop-i-preserved c =
    let h : c.loop-i.i + 1 < length c.args.words.now = omega (arith, c.loop-i-test.true) in
    c.loop-i.invariant ∙ elim c.if-words-i.branch [
      | then-words-i w ↦ rises-no-more _ _ _ h _ _ w.right-is w.if-words-i.true
      | else-words-i w ↦ rises_next _ _ _ h _ _ w.right-is w.if-words-i.false
    ]

pub returns-then-right : goal.returns-then-right
returns-then-right c = sym (c.loop-i.invariant ∙ rises-whole _ _ _ _ _ c.if-right.true c.loop-i.auto.i-end c.loop-i-test.false (omega (arith, not_empty c.args.words.now c.if-is_empty.ensures)))
