use mathlib.Core.Path.{sym, ◌∙◌}
use native.Mathlib.Omega.{arith}
use Rattle.scheme.proofs.Joined.{filled-index}
use Rattle.rewriting.proofs.Laws.Preparation.{table-refused, ready-here, beyond-here, within-is}
use Rattle.rewriting.proofs.copies.prepare.Goals as goal

pub returns-in_err-check_sparing : goal.returns-in_err-check_sparing
returns-in_err-check_sparing c = table-refused _ _ _ _ c.in_err-check_sparing.ensures _ c.from_residual.ensures.1

pub list_copies-copies-requires : goal.list_copies-copies-requires
list_copies-copies-requires c =
    let p = c.requires in
    record {
      spared = record { ok = sym c.in_ok-check_sparing.ensures; right = filled-index _ _ _ _ c.fill.ensures (omega (arith, p.0)) };
      list-reach = p.1;
    }

pub returns-then-not-within : goal.returns-then-not-within
returns-then-not-within c =
    let l = c.list_copies-copies.ensures in
    beyond-here _ l.ok (sym (within-is _ _ _ _ l c.with_copies.ensures) ∙ sym c.within.ensures ∙ c.if-not-within.true)

pub returns : goal.returns
returns c =
    let l = c.list_copies-copies.ensures in (
      ready-here _ l.ok (sym (within-is _ _ _ _ l c.with_copies.ensures) ∙ sym c.within.ensures ∙ c.if-not-within.false),
      filled-index _ _ _ _ c.fill.ensures (omega (arith, c.requires.0)),
      l,
    )
