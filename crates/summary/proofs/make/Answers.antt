-- Each return is one test of the definition, in its order.
use Rattle.std.proofs.Common.{sym, ◌∙◌, arith, length-take-le}
use Rattle.std.specs.Prelude.{Result, ℕ}
use Rattle.net.specs.declared.Refusal as refused
use Rattle.summary.specs.Answers.{make_outcome}
use Rattle.net.proofs.Images.{header}
use Rattle.net.proofs.Lent.{both_right, exit}
use Rattle.summary.proofs.Answering.{records-known, sound, make_refused, make-no-record, make-few-counts, make-few-words, make-whole}
use Rattle.summary.proofs.make.Goals as goal
use Rattle.summary.proofs.make.Goals.{then-counts-count-via-then-counts-count, then-counts-count-via-else-counts-count+then-enabled-words}

pub returns-in_err-check : goal.returns-in_err-check
returns-in_err-check c =
    exit (λ (r : Result ℕ refused.Refusal). make_outcome r c.args.counts.now c.args.enabled.now) _ _ _ c.from_residual.ensures.1 (make_refused _ _ _ _ c.in_err-check.ensures)

pub returns-then-not-records_right : goal.returns-then-not-records_right
returns-then-not-records_right c =
    let r = both_right _ _ (sym c.in_ok-check.ensures) in
    sym (make-no-record _ _ _ r.header r.marking (records-known _ _ r.header c.records_right.ensures ∙ c.if-not-records_right.true))

pub bounds-image-1 : goal.bounds-image-1
bounds-image-1 c =
    let h = header _ (both_right _ _ (sym c.in_ok-check.ensures)).header in omega arith

pub returns-then-counts-count : goal.returns-then-counts-count
returns-then-counts-count c =
    let r = both_right _ _ (sym c.in_ok-check.ensures) in
    let whole = records-known _ _ r.header c.records_right.ensures ∙ c.if-not-records_right.false in
    sym (elim c.then-counts-count.branch [
      | then-counts-count-via-then-counts-count w ↦ make-few-counts _ _ _ r.header r.marking whole w.if-counts-count.true
      | then-counts-count-via-else-counts-count+then-enabled-words w ↦ make-few-words _ _ _ r.header r.marking whole w.if-enabled-words.true
    ])

pub make_all-requires : goal.make_all-requires
make_all-requires c =
    let r = both_right _ _ (sym c.in_ok-check.ensures) in
    let whole = records-known _ _ r.header c.records_right.ensures ∙ c.if-not-records_right.false in
    let m = r.marking in (
      sound _ _ r.header m whole,
      record { counted = length-take-le _ _ c.if-counts-count.false; words = length-take-le _ _ c.if-enabled-words.false },
      m,
    )

pub returns : goal.returns
returns c =
    let r = both_right _ _ (sym c.in_ok-check.ensures) in
    let whole = records-known _ _ r.header c.records_right.ensures ∙ c.if-not-records_right.false in
    sym (make-whole _ _ _ r.header r.marking whole
    c.if-counts-count.false c.if-enabled-words.false _
    _ c.make_all.ensures)
