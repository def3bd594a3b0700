use mathlib.Core.Path.{sym, ◌∙◌}
use native.Mathlib.Omega.{arith}
use Rattle.readback.proofs.Settling.{count-is, here}
use Rattle.readback.proofs.Answering.{no-marking, no-state, no_room, done, state-is}
use Rattle.places.proofs.Plans.{known}
use Rattle.readback.proofs.read_laid.Goals as goal

pub returns-then-not-marking_right : goal.returns-then-not-marking_right
returns-then-not-marking_right c =
    no-marking c.args.table.now c.args.marking.now c.args.state.now c.place_count.result
    (count-is c.args.table.now c.args.index.now c.requires _ c.place_count.ensures.is)
    (sym c.marking_right.ensures ∙ c.if-not-marking_right.true)

pub returns-then-not-stands_for : goal.returns-then-not-stands_for
returns-then-not-stands_for c =
    no-state c.args.table.now c.args.marking.now c.args.state.now c.place_count.result
    (count-is c.args.table.now c.args.index.now c.requires _ c.place_count.ensures.is)
    (sym c.marking_right.ensures ∙ c.if-not-marking_right.false)
    (sym c.stands_for.ensures.0 ∙ c.if-not-stands_for.true)

pub returns-then-state-size : goal.returns-then-state-size
returns-then-state-size c =
    no_room c.args.table.now c.args.marking.now c.args.state.now c.place_count.result
    (count-is c.args.table.now c.args.index.now c.requires _ c.place_count.ensures.is)
    (sym c.marking_right.ensures ∙ c.if-not-marking_right.false)
    (sym c.stands_for.ensures.0 ∙ c.if-not-stands_for.false) _
    (omega (arith, c.word.ensures.is, c.word-2.ensures.is)) c.if-state-size.true

pub write_values-requires : goal.write_values-requires
write_values-requires c =
    (known _ _ c.requires, (c.stands_for.ensures.1 c.if-not-stands_for.false).at-nodes)

pub returns : goal.returns
returns c =
    done c.args.table.now c.args.marking.now c.args.state.now c.place_count.result
    (count-is c.args.table.now c.args.index.now c.requires _ c.place_count.ensures.is)
    (sym c.marking_right.ensures ∙ c.if-not-marking_right.false)
    (sym c.stands_for.ensures.0 ∙ c.if-not-stands_for.false) _
    (omega (arith, c.word.ensures.is, c.word-2.ensures.is)) _ c.if-state-size.false
    (state-is c.args.table.now c.args.marking.now _ _ _ c.requires.accepted
    (here c.args.table.now c.args.index.now c.requires c.args.marking.now
    (rw (← c.place_count.ensures.is) (sym c.marking_right.ensures ∙ c.if-not-marking_right.false)))
    (c.stands_for.ensures.1 c.if-not-stands_for.false) c.args.state.now _ _ c.write_nodes.ensures
    c.write_values.ensures)
