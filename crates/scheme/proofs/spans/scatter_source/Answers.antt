use mathlib.Core.Path.{◌≡◌, sym, ◌∙◌}
use Prim.Native.Nat.{◌+◌, ◌-◌}
use native.Mathlib.Omega.{arith}
use Rattle.scheme.specs.Spans.{span_of}
use Rattle.scheme.proofs.Scatter.{scatter-more, scatter-done}
use Rattle.scheme.proofs.spans.scatter_source.Goals as goal

pub loop-i-preserved : goal.loop-i-preserved
loop-i-preserved c =
    let a = c.args in
    let l = c.loop-i in
    let f = c.span_first-first in
    let k = c.span_count in
    let p = c.put_span in
    let q : f.result + k.result - f.result ≡ k.result = omega arith in
    (l.invariant.0 ∙ scatter-more (span_of a.table.now a.source) a.tag l.i l.out (omega arith) ∙ rw (p.ensures, q, f.ensures.is, k.ensures.is), p.auto.out ∙ l.invariant.1, omega arith)

pub returns : goal.returns
returns c =
    let a = c.args in
    let l = c.loop-i in
    sym (l.invariant.0 ∙ scatter-done (span_of a.table.now a.source) a.tag l.i l.out c.loop-i-test.false)
