use mathlib.Core.Path.{sym, ap, ◌∙◌}
use native.Mathlib.Omega.{arith}
use Rattle.net.specs.Firing.{put}
use Rattle.places.proofs.Controls.{few-nodes}
use Rattle.readback.proofs.Holding.{all_fit, held-stop, held-call, held-other}
use Rattle.readback.proofs.names.mark_held.Goals as goal

pub overflow_cast-node : goal.overflow_cast-node
overflow_cast-node c =
    omega (arith, c.requires.1, few-nodes c.args.table.now c.requires.0.accepted)

pub mark_names-requires : goal.mark_names-requires
mark_names-requires c =
    all_fit c.args.table.now c.args.index.now c.requires.0 c.args.node c.requires.1 c.args.k _
    c.held_names-count.result _
    c.held_names-count.ensures (omega arith)

pub returns-then-kind-eq0 : goal.returns-then-kind-eq0
returns-then-kind-eq0 c =
    c.mark_names.ensures ∙ ap (put 1 c.args.held.now)
    (held-stop c.args.table.now c.args.index.now c.requires.0 c.args.node c.requires.1 c.args.k _ c.held_names-count.result _
    c.held_names-count.ensures (omega arith)
    (sym c.field3-kind.ensures.is ∙ c.if-kind-eq0.true))

pub mark_call-requires : goal.mark_call-requires
mark_call-requires c =
    all_fit c.args.table.now c.args.index.now c.requires.0 c.args.node c.requires.1 c.args.k _
    c.held_names-count.result _
    c.held_names-count.ensures (omega arith)

pub returns-then-kind-eq3 : goal.returns-then-kind-eq3
returns-then-kind-eq3 c =
    c.mark_call.ensures ∙ ap (put 1 c.args.held.now) (held-call c.args.table.now c.args.index.now
    c.requires.0 c.args.node c.requires.1 c.args.k _ c.held_names-count.result _
    c.held_names-count.ensures (omega arith)
    (sym c.field3-kind.ensures.is ∙ c.if-kind-eq3.true))

pub mark_names-requires-2 : goal.mark_names-requires-2
mark_names-requires-2 c =
    all_fit c.args.table.now c.args.index.now c.requires.0 c.args.node c.requires.1 c.args.k _
    c.held_names-count.result _
    c.held_names-count.ensures (omega arith)

pub returns : goal.returns
returns c =
    c.mark_names-2.ensures ∙ ap (put 1 c.args.held.now)
    (held-other c.args.table.now c.args.index.now c.requires.0 c.args.node c.requires.1 c.args.k _ c.held_names-count.result _
    c.held_names-count.ensures (omega arith)
    (λ e. c.if-kind-eq0.false (c.field3-kind.ensures.is ∙ e)) (λ e. c.if-kind-eq3.false (c.field3-kind.ensures.is ∙ e)))
