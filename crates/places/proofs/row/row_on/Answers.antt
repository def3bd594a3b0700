use Rattle.std.proofs.Common.{ℕ, ◌+◌, ◌%◌, ◌^◌, ap, ◌∙◌, arith}
use Rattle.places.specs.Starts.{start_of}
use Rattle.places.proofs.Starts.{on-known, on-public, on-counted}
use Rattle.places.proofs.row.row_on.Goals as goal

pub returns-then-name-s : goal.returns-then-name-s
returns-then-name-s c =
    let a = c.args in
    on-known a.table.now a.index.now a.s a.name c.if-name-s.true

pub returns-then-name-word : goal.returns-then-name-word
returns-then-name-word c =
    let a = c.args in
    on-public a.table.now a.index.now a.s a.name c.if-name-s.false (omega (arith, c.if-name-word.true, c.word.ensures.is))

pub returns : goal.returns
returns c =
    let a = c.args in
    let f = c.start_from-first.result in
    ap (start_of a.name) (c.wrapping_add_usize.ensures.value ∙ ap (λ (n : ℕ). (f.row + n) % 2 ^ 64) c.row_places.ensures)
    ∙ on-counted a.table.now a.index.now a.s a.name c.if-name-s.false f c.start_from-first.ensures
    (omega (arith, c.if-name-word.false, c.word.ensures.is))
