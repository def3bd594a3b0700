use mathlib.Core.Path.{sym, ◌∙◌}
use Rattle.scheme.specs.Scheme.{scheme}
use Rattle.process.specs.Steps.{take}
use Rattle.process.specs.StateWords.{state_of}
use Rattle.process.specs.Inner.Codes.{meant}
use Rattle.process.proofs.Sets.{sets-map-more, sets-map-done}
use Rattle.process.proofs.next.write_nodes.Goals as goal

pub loop-t-preserved : goal.loop-t-preserved
loop-t-preserved c =
    let l = c.loop-t in
    l.invariant ∙ sets-map-more
    (take (scheme c.args.known.now.table.now) (meant c.args.step) (state_of (scheme c.args.known.now.table.now) c.args.state.now)).node
    l.out l.t l.t _ c.loop-t-test.true ∙ rw (c.store.ensures, c.node_after.ensures.is)

pub returns : goal.returns
returns c =
    let l = c.loop-t in
    sym (l.invariant ∙ sets-map-done
    (take (scheme c.args.known.now.table.now) (meant c.args.step) (state_of (scheme c.args.known.now.table.now) c.args.state.now)).node
    l.out l.t l.t _ c.loop-t-test.false)
