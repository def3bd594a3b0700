use Rattle.std.proofs.Common.{◌∙◌, arith}
use Rattle.net.specs.Image.{transition_count, inputs_at}
use Rattle.summary.specs.Summary.{summary}
use Rattle.summary.specs.Inner.Marks.{missing_in, is_worked_afresh}
use Rattle.summary.proofs.Entries.{refresh-start, refresh-turn, refresh-done}
use Rattle.summary.proofs.refresh.Goals as goal

pub loop-transition-init : goal.loop-transition-init
loop-transition-init c = refresh-start _ _ _ _ c.requires.1.counted (λ j. omega (arith, c.type_inv.enabled j))

pub loop-transition-preserved : goal.loop-transition-preserved
loop-transition-preserved c =
    let w = c.args.image.now in
    let b = c.args.bytes.now in
    let before = summary c.args.counts.now c.args.enabled.now in
    c.renew.ensures
    ∙ refresh-turn (transition_count w) (is_worked_afresh w b c.args.all) (λ u. missing_in b (inputs_at w u)) before c.loop-transition.transition
    (omega (arith, c.requires.1.counted, c.loop-transition-test.true)) (omega (arith, c.requires.1.words)) _ c.loop-transition.invariant

pub returns : goal.returns
returns c = c.loop-transition.invariant ∙ refresh-done _ _ _ _ _ (omega (arith, c.requires.1.counted, c.loop-transition-test.false))
