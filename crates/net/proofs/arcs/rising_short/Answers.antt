use Rattle.std.proofs.Common.{◌+◌, ◌<◌, length, true, false, refl, sym, ◌∙◌, arith}
use Rattle.net.proofs.Marks.{not_empty, rises-none, rises-first, rises_next, rises-no-more, rises-whole}
use Rattle.net.proofs.arcs.rising_short.Goals as goal

pub returns-then-is_empty : goal.returns-then-is_empty
returns-then-is_empty c = rises-none _ _ c.if-is_empty.ensures

pub loop-i-init : goal.loop-i-init
loop-i-init c = rises-first _ _ (not_empty _ c.if-is_empty.ensures)

pub returns-then-words-i : goal.returns-then-words-i
returns-then-words-i c =
    let h : c.loop-i.i + 1 < length c.args.words.now = omega (arith, c.loop-i-test.true) in
    sym (c.loop-i.invariant ∙ rises-no-more _ _ _ h true false refl c.if-words-i.true)

pub loop-i-preserved : goal.loop-i-preserved
loop-i-preserved c =
    let h : c.loop-i.i + 1 < length c.args.words.now = omega (arith, c.loop-i-test.true) in
    c.loop-i.invariant ∙ rises_next _ _ _ h true true refl c.if-words-i.false

pub returns : goal.returns
returns c = sym (c.loop-i.invariant ∙ rises-whole _ _ _ _ true refl c.loop-i.auto.i-end c.loop-i-test.false (omega (arith, not_empty c.args.words.now c.if-is_empty.ensures)))
