use Rattle.std.proofs.Common.{◌∙◌, arith}
use Rattle.net.proofs.Images.{arcs_within, part, inputs_are, outputs-are}
use Rattle.summary.proofs.arcs_of.Goals as goal

pub slice_bounds-result-end : goal.slice_bounds-result-end
slice_bounds-result-end c =
    let o = c.span_of-span.ensures in
    omega (arith, arcs_within _ _ c.requires.2, o.outputs-are)

pub slice_bounds-result-end-2 : goal.slice_bounds-result-end-2
slice_bounds-result-end-2 c =
    let o = c.span_of-span.ensures in
    omega (arith, arcs_within _ _ c.requires.2, o.end_is)

pub returns : goal.returns
returns c =
    let o = c.span_of-span.ensures in
    let s = c.span_of-span.result in record {
      right = c.requires.2;
      inputs-are = part _ s.inputs s.outputs (omega (arith, o.inputs_are, o.outputs-are)) ∙ inputs_are _ _ _ _ _ o;
      outputs-are = part _ s.outputs s.end (omega (arith, o.outputs-are, o.end_is)) ∙ outputs-are _ _ _ _ _ o;
    }
