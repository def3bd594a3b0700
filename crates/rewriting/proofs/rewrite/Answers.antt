use mathlib.Core.Path.{◌∙◌}
use Rattle.rewriting.proofs.Laws.Preparation.{prepared-ready, prepared-refused, rewriting-refused, small-counts, size_is, no_room, all-written}
use Rattle.rewriting.proofs.rewrite.Goals as goal

pub returns-in_err-copies : goal.returns-in_err-copies
returns-in_err-copies c =
    let r = prepared-refused _ _ _ _ c.prepare.ensures _ c.in_err-copies.was in
    rewriting-refused _ _ r.0 r.1 _ _ c.from_residual.ensures.1

pub size-words-requires : goal.size-words-requires
size-words-requires c =
    let r = prepared-ready _ _ _ _ c.prepare.ensures _ c.in_ok-copies.was in
    small-counts _ _ _ _ r.2 c.with_copies-counts.ensures r.0

pub returns-then-out-words : goal.returns-then-out-words
returns-then-out-words c =
    let r = prepared-ready _ _ _ _ c.prepare.ensures _ c.in_ok-copies.was in
    no_room _ _ _ r.0 (c.size-words.ensures ∙ size_is _ _ _ _ r.2 c.with_copies-counts.ensures) c.if-out-words.true

pub write_table-requires : goal.write_table-requires
write_table-requires c =
    let r = prepared-ready _ _ _ _ c.prepare.ensures _ c.in_ok-copies.was in
    (r.1, record { rows = r.2; summed = c.with_copies-counts.ensures; small = small-counts _ _ _ _ r.2 c.with_copies-counts.ensures r.0 })

pub returns : goal.returns
returns c =
    let r = prepared-ready _ _ _ _ c.prepare.ensures _ c.in_ok-copies.was in
    all-written _ _ _ _ r.0 (c.size-words.ensures ∙ size_is _ _ _ _ r.2 c.with_copies-counts.ensures) c.if-out-words.false c.write_table.ensures
