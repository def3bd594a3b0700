use mathlib.Core.Path.{sym, ◌∙◌}
use Rattle.process.proofs.Numbering.{values-done, all-numbered}
use Rattle.process.proofs.values.write_numbered.Goals as goal

pub returns : goal.returns
returns c =
    let l = c.loop-i in
    let a = c.args in
    all-numbered _ _ _ _ _ c.if-publics-gt32.false c.if-count-gt32.false c.if-values-count.false _
    (sym (l.invariant.0 ∙ values-done a.values.now a.publics a.at a.count l.i l.noted l.out l.seen c.loop-i-test.false))
