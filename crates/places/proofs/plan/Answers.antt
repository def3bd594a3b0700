use Rattle.std.proofs.Common.{ℕ, List, ◌++◌, sym, ap, ◌∙◌, arith}
use Rattle.scheme.proofs.Joined.{filled-index}
use Rattle.table.specs.Answer.{cause_of}
use Rattle.places.specs.Plan.{plan_words}
use Rattle.places.specs.Answers.{ready, outcome}
use Rattle.places.proofs.Plans.{filled-long, filled-rest}
use Rattle.places.proofs.Outcomes.{is-refused, is-short, is-laid}
use Rattle.places.proofs.plan.Goals as goal

pub returns-in_err-check : goal.returns-in_err-check
returns-in_err-check c = is-refused _ _ _ c.in_err-check.ensures _ c.from_residual.ensures.1

pub returns-then-index-lt-SIZE : goal.returns-then-index-lt-SIZE
returns-then-index-lt-SIZE c =
    is-short _ _ (sym c.check.ensures ∙ ap cause_of c.in_ok-check.was) c.if-index-lt-SIZE.true

pub lay_out-requires : goal.lay_out-requires
lay_out-requires c =
    let a = c.args in
    let f = c.fill in (
      record {
        accepted = sym c.check.ensures ∙ ap cause_of c.in_ok-check.was;
        right = filled-index a.table.now a.index.now _ _ f.ensures (omega (arith, c.if-index-lt-SIZE.false));
      },
      omega (arith, filled-long a.table.now a.index.now _ _ f.ensures (omega (arith, c.if-index-lt-SIZE.false)), c.if-index-lt-SIZE.false),
    )

pub returns : goal.returns
returns c =
    let a = c.args in
    let w = a.table.now in
    ap (outcome ready)
    (c.lay_out.ensures
    ∙ ap (λ (l : List ℕ). plan_words w ++ l) (filled-rest w a.index.now _ _ c.fill.ensures (omega (arith, c.if-index-lt-SIZE.false))))
    ∙ is-laid w a.index.now (sym c.check.ensures ∙ ap cause_of c.in_ok-check.was) c.if-index-lt-SIZE.false
