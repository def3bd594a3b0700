use Rattle.std.proofs.Common.{◌≡◌, ◌+◌, ◌≤◌, sym, ap, ◌∙◌, arith}
use Rattle.scheme.specs.Words.{formal_count}
use Rattle.scheme.specs.Scheme.{scheme}
use Rattle.places.specs.Places.{controls}
use Rattle.places.proofs.ByWords.{stop-counts, call-counts, count-one}
use Rattle.places.proofs.Plans.{node-step}
use Rattle.places.proofs.layout.control_count.Goals.{After-field4-formals, Then-kind-eq0}
use Rattle.places.proofs.layout.control_count.Goals as goal

-- what a Stop and a Call have
stopped : (c : Then-kind-eq0) → let a = c.args in
    (1 + a.held ≡ controls (scheme a.table.now) a.node) × (1 + a.held ≤ 65)
stopped c =
    stop-counts c.args.table.now c.requires.0 c.args.node c.requires.1 c.args.held (sym c.field3-kind.ensures.is ∙ c.if-kind-eq0.true) c.requires.2

called : (c : After-field4-formals) → let a = c.args in
    (1 + c.field4-formals.result + a.held ≡ controls (scheme a.table.now) a.node) × (1 + c.field4-formals.result + a.held ≤ 65)
called c =
    let w = c.args.table.now in
    call-counts w c.requires.0 c.args.node c.requires.1 c.field4-formals.result c.args.held
    (sym c.field3-kind.ensures.is ∙ c.if-kind-eq3.true)
    (c.field4-formals.ensures.is ∙ ap (formal_count w) c.field3.ensures.is) c.requires.2

pub overflow_add-result : goal.overflow_add-result
overflow_add-result c = omega (
  arith,
  ((stopped (goal.at.overflow_add-result c).Then-kind-eq0)).1,
)

pub returns-then-kind-eq0 : goal.returns-then-kind-eq0
returns-then-kind-eq0 c = let k = (stopped (goal.at.returns-then-kind-eq0 c).Then-kind-eq0) in (node-step c.args.table.now c.args.node _ c.requires.1 k.0, k.1)

pub overflow_add-result-then-kind-eq3-2 : goal.overflow_add-result-then-kind-eq3-2
overflow_add-result-then-kind-eq3-2 c = omega (
  arith,
  ((called (goal.at.overflow_add-result-then-kind-eq3-2 c).After-field4-formals)).1,
)

pub returns-then-kind-eq3 : goal.returns-then-kind-eq3
returns-then-kind-eq3 c =
    let k = (called (goal.at.returns-then-kind-eq3 c).After-field4-formals) in (node-step c.args.table.now c.args.node _ c.requires.1 k.0, k.1)

pub returns : goal.returns
returns c =
    let w = c.args.table.now in
    let f = c.field3-kind.ensures.is in
    let k = count-one w c.requires.0 c.args.node c.requires.1 (λ e. c.if-kind-eq0.false (f ∙ e)) (λ e. c.if-kind-eq3.false (f ∙ e)) in
    (node-step w c.args.node 1 c.requires.1 k.0, k.1)
