-- Each return is one test of the definition, in its order, then as the firing goes.
use Rattle.std.proofs.Common.{sym, ◌∙◌, arith}
use Rattle.std.specs.Prelude.{Result, ⊤}
use Rattle.summary.specs.declared.Refusal.{Refusal}
use Rattle.summary.specs.Answers.{keep_outcome}
use Rattle.net.proofs.Images.{header}
use Rattle.net.proofs.Lent.{both_right, exit}
use Rattle.summary.proofs.Answering.{records-known, sound, fits, keep_refused, keep-no-lengths, keep-no-number, keep-no-record}
use Rattle.summary.proofs.fire.Goals as goal

pub returns-in_err-check : goal.returns-in_err-check
returns-in_err-check c =
    exit (λ (r : Result ⊤ Refusal). keep_outcome r c.args.marking.now c.args.counts.now c.args.enabled.now) _ _ _ c.from_residual.ensures.1 (keep_refused _ _ _ _ _ c.in_err-check.ensures)

pub bounds-image-1 : goal.bounds-image-1
bounds-image-1 c = let h = header _ (both_right _ _ (sym c.in_ok-check.ensures)).header in omega arith

pub returns-then-not-lengths_right : goal.returns-then-not-lengths_right
returns-then-not-lengths_right c =
    let r = both_right _ _ (sym c.in_ok-check.ensures) in
    sym (keep-no-lengths _ _ _ _ r.header r.marking (sym c.lengths_right.ensures ∙ c.if-not-lengths_right.true))

pub returns-then-count-transition : goal.returns-then-count-transition
returns-then-count-transition c =
    let r = both_right _ _ (sym c.in_ok-check.ensures) in
    let sized = sym c.lengths_right.ensures ∙ c.if-not-lengths_right.false in
    sym (keep-no-number _ _ _ _ r.header r.marking sized c.if-count-transition.true)

pub returns-then-not-records_right : goal.returns-then-not-records_right
returns-then-not-records_right c =
    let r = both_right _ _ (sym c.in_ok-check.ensures) in
    let sized = sym c.lengths_right.ensures ∙ c.if-not-lengths_right.false in
    sym (keep-no-record _ _ _ _ r.header r.marking sized c.if-count-transition.false
    (records-known _ _ r.header c.records_right.ensures ∙ c.if-not-records_right.true))

pub fire_known-requires : goal.fire_known-requires
fire_known-requires c =
    let r = both_right _ _ (sym c.in_ok-check.ensures) in
    let sized = sym c.lengths_right.ensures ∙ c.if-not-lengths_right.false in
    let whole = records-known _ _ r.header c.records_right.ensures ∙ c.if-not-records_right.false in
    (sound _ _ r.header r.marking whole, fits _ _ _ sized, c.if-count-transition.false, r.marking)
