use Rattle.std.proofs.Common.{◌≡◌, ◌<◌, ◌≤◌, length, refl, ◌∙◌, arith}
use Rattle.net.specs.Inner.Passes.{rule_of}
use Rattle.net.proofs.Runs.{run-start, run-limit, run-full, run-turn, run_on, rest-kept, leaves-ended}
use Rattle.net.proofs.run_on.Goals as goal

pub loop-made-init : goal.loop-made-init
loop-made-init c = (refl, λ k h. absurd (omega arith), run-start _ _ _ c.args.history.now _ _)

pub returns-in-Err : goal.returns-in-Err
returns-in-Err c =
    let l = c.loop-made in
    let k : l.made < c.args.limit = omega (arith, c.min-turns.ensures, c.loop-made-test.true) in
    let r : l.made < length c.args.history.now = omega (arith, c.min-turns.ensures, c.loop-made-test.true) in
    leaves-ended _ _ _ _ _ _ _ _ l.invariant.2 (run-turn _ _ _ _ _ _ k r ∙ c.in-Err.ensures.turned _ _) refl refl (omega (arith, r, l.auto.history))
    l.invariant.0

pub loop-made-preserved : goal.loop-made-preserved
loop-made-preserved c =
    let l = c.loop-made in
    let k : l.made < c.args.limit = omega (arith, c.min-turns.ensures, c.loop-made-test.true) in
    let r : l.made < length c.args.history.now = omega (arith, c.min-turns.ensures, c.loop-made-test.true) in
    let t = c.in-Ok.ensures.turned in (
      rest-kept l.history c.args.history.now l.made _ l.invariant.0,
      c.turn.ensures.seen,
      run_on c.args.image.now (rule_of c.args.settle c.args.image.now) l.marking l.history c.args.limit (length c.args.history.now) l.made _ l.invariant.2
          k r l.auto.history _ _ t.0 t.1,
    )

pub returns-then-limit-history : goal.returns-then-limit-history
returns-then-limit-history c =
    let l = c.loop-made in
    let e : c.min-turns.result ≡ l.made = omega (arith, c.loop-made-test.false, l.auto.made-end) in
    let h : c.args.limit ≤ l.made = omega (arith, c.min-turns.ensures, c.if-limit-history.true, l.auto.history, e) in
    leaves-ended _ _ _ _ _ _ _ _ l.invariant.2 (run-limit _ _ _ _ _ _ h) e refl (omega (arith, c.min-turns.ensures, l.auto.history, e)) l.invariant.0

pub returns-else-limit-history : goal.returns-else-limit-history
returns-else-limit-history c =
    let l = c.loop-made in
    let e : c.min-turns.result ≡ l.made = omega (arith, c.loop-made-test.false, l.auto.made-end) in
    let h : length c.args.history.now ≤ l.made = omega (arith, c.min-turns.ensures, c.if-limit-history.false, l.auto.history, e) in
    let k : l.made < c.args.limit = omega (arith, c.min-turns.ensures, c.if-limit-history.false, l.auto.history, e) in
    leaves-ended _ _ _ _ _ _ _ _ l.invariant.2 (run-full _ _ _ _ _ _ k h) e refl (omega (arith, c.min-turns.ensures, l.auto.history, e)) l.invariant.0
