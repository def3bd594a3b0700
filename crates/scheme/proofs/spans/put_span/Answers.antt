use mathlib.Core.Path.{sym, ◌∙◌}
use native.Mathlib.Omega.{arith}
use lib.ListN.{length-set}
use Rattle.scheme.proofs.Scatter.{put-more, put-done}
use Rattle.scheme.proofs.spans.put_span.Goals as goal

pub loop-x-preserved : goal.loop-x-preserved
loop-x-preserved c =
    let a = c.args in
    let l = c.loop-x in
    let s = c.store in
    (l.invariant.0 ∙ put-more a.v l.out l.x a.end (omega arith) ∙ rw s.ensures, rw s.ensures (length-set l.out l.x a.v ∙ l.invariant.1))

pub returns : goal.returns
returns c =
    let a = c.args in
    let l = c.loop-x in
    sym (l.invariant.0 ∙ put-done a.v l.out l.x a.end c.loop-x-test.false)
