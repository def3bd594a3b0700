-- Each return is one test of the definition, in its order.
use Rattle.std.proofs.Common.{ℕ, Bool, not, sym, ap, ◌∙◌, arith}
use Rattle.lists.specs.Lists.{pick}
use Rattle.std.specs.Prelude.{Result, ℕ, ⊤}
use Rattle.summary.specs.declared.Refusal.{Refusal}
use Rattle.summary.specs.Answers.{kept_number}
use Rattle.net.proofs.Images.{header}
use Rattle.net.proofs.Lent.{both_right, exit}
use Rattle.summary.specs.Summary.{summary}
use Rattle.summary.proofs.Answering.{records-known, sound, fits, check_refused, check-no-lengths, check-no-record, check-contents}
use Rattle.summary.proofs.check.Goals as goal

pub returns-in_err-check : goal.returns-in_err-check
returns-in_err-check c =
    exit (λ (r : Result ⊤ Refusal). kept_number r) _ _ _ c.from_residual.ensures.1 (check_refused _ _ _ _ c.in_err-check.ensures)

pub bounds-image-1 : goal.bounds-image-1
bounds-image-1 c = let h = header _ (both_right _ _ (sym c.in_ok-check.ensures)).header in omega arith

pub returns-then-not-lengths_right : goal.returns-then-not-lengths_right
returns-then-not-lengths_right c =
    let r = both_right _ _ (sym c.in_ok-check.ensures) in
    sym (check-no-lengths _ _ _ r.header r.marking (sym c.lengths_right.ensures ∙ c.if-not-lengths_right.true))

pub returns-then-not-records_right : goal.returns-then-not-records_right
returns-then-not-records_right c =
    let r = both_right _ _ (sym c.in_ok-check.ensures) in
    let sized = sym c.lengths_right.ensures ∙ c.if-not-lengths_right.false in
    sym (check-no-record _ _ _ r.header r.marking sized (records-known _ _ r.header c.records_right.ensures ∙ c.if-not-records_right.true))

pub entries_right-requires : goal.entries_right-requires
entries_right-requires c =
    let r = both_right _ _ (sym c.in_ok-check.ensures) in
    let sized = sym c.lengths_right.ensures ∙ c.if-not-lengths_right.false in
    let whole = records-known _ _ r.header c.records_right.ensures ∙ c.if-not-records_right.false in
    (sound _ _ r.header r.marking whole, fits _ _ _ sized, r.marking)

pub returns-then-not-entries_right : goal.returns-then-not-entries_right
returns-then-not-entries_right c =
    let r = both_right _ _ (sym c.in_ok-check.ensures) in
    let sized = sym c.lengths_right.ensures ∙ c.if-not-lengths_right.false in
    let whole = records-known _ _ r.header c.records_right.ensures ∙ c.if-not-records_right.false in
    let a = c.args in
    sym (check-contents a.image.now a.marking.now (summary a.counts.now a.enabled.now) r.header r.marking sized
    whole c.entries_right.result
    c.entries_right.ensures
    ∙ ap (λ (r : Bool). pick {A = ℕ} (not r) 20 0) (c.if-not-entries_right.true))

pub returns : goal.returns
returns c =
    let r = both_right _ _ (sym c.in_ok-check.ensures) in
    let sized = sym c.lengths_right.ensures ∙ c.if-not-lengths_right.false in
    let whole = records-known _ _ r.header c.records_right.ensures ∙ c.if-not-records_right.false in
    let a = c.args in
    sym (check-contents a.image.now a.marking.now (summary a.counts.now a.enabled.now) r.header r.marking sized
    whole c.entries_right.result
    c.entries_right.ensures
    ∙ ap (λ (r : Bool). pick {A = ℕ} (not r) 20 0) (c.if-not-entries_right.false))
