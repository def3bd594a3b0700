use mathlib.Core.Path.{sym, ◌∙◌}
use Rattle.readback.proofs.Settling.{no-spots, stand-at, no-values, values-once, settles}
use Rattle.places.proofs.Plans.{known}
use Rattle.readback.proofs.stands_for.Goals as goal

pub returns-then-not-find_spots : goal.returns-then-not-find_spots
returns-then-not-find_spots c =
    no-spots c.args.table.now c.args.index.now c.requires.seeking.laid
    c.args.marking.now c.requires.marking _ _ _ (sym c.find_spots.ensures.0 ∙ c.if-not-find_spots.true)

pub mark_all-requires : goal.mark_all-requires
mark_all-requires c = (
  known _ _ c.requires.seeking.laid,
  stand-at c.args.table.now c.args.index.now c.requires.seeking.laid
      c.args.marking.now c.requires.marking
      c.find_spots.new.places c.find_spots.new.indexes
      (sym c.find_spots.ensures.0 ∙ c.if-not-find_spots.false) c.find_spots.ensures.1,
)

pub freed-requires : goal.freed-requires
freed-requires c =
    let found = c.if-find_values.true in (
      c.requires.seeking.laid,
      values-once c.args.table.now c.args.index.now c.requires.seeking.laid
          c.args.marking.now c.requires.marking _ _ (sym c.find_spots.ensures.0 ∙ c.if-not-find_spots.false)
          c.find_spots.ensures.1
          _ c.mark_all.ensures _ c.find_values.result c.find_values.ensures.0 found
          (c.find_values.ensures.1 found),
    )

pub returns-then-find_values : goal.returns-then-find_values
returns-then-find_values c =
    settles c.args.table.now c.args.index.now c.requires.seeking.laid
    c.args.marking.now c.requires.marking _ _ (sym c.find_spots.ensures.0 ∙ c.if-not-find_spots.false)
    c.find_spots.ensures.1
    _ c.mark_all.ensures _ c.find_values.result c.find_values.ensures.0 c.if-find_values.true
    (c.find_values.ensures.1 c.if-find_values.true) c.freed.result c.freed.ensures

pub returns-else-find_values : goal.returns-else-find_values
returns-else-find_values c =
    no-values c.args.table.now c.args.index.now c.requires.seeking.laid
    c.args.marking.now c.requires.marking _ _ (sym c.find_spots.ensures.0 ∙ c.if-not-find_spots.false)
    c.find_spots.ensures.1
    _ c.mark_all.ensures _ c.find_values.result c.find_values.ensures.0 c.if-find_values.false
