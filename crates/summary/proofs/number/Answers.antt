use Rattle.std.proofs.Common.{ℕ, ◌%◌, ◌^◌, ◌<◌, get_or, ap, ◌∙◌, arith}
use Rattle.summary.proofs.Counting.{count_none, count-more, count-all}
use Rattle.summary.proofs.number.Goals as goal

pub loop-word-init : goal.loop-word-init
loop-word-init c = omega (arith, count_none c.args.enabled.now)

pub loop-word-preserved : goal.loop-word-preserved
loop-word-preserved c =
    let w = c.args.enabled.now in
    let i = c.loop-word.word-index in
    let f : get_or w i 0 < 2 ^ 64 = omega (arith, c.type_inv.enabled i) in
    omega (arith, c.loop-word.invariant, count-more w i f)

pub returns : goal.returns
returns c = c.loop-word.invariant ∙ ap (λ (n : ℕ). n % 2 ^ 64) (count-all _ _ (omega (arith, c.loop-word-test.false, c.loop-word.auto.word-index-end)))
