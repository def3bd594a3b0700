use mathlib.Core.Path.{sym, ap, ◌∙◌}
use Prim.Native.Nat.{ℕ, ◌+◌, ◌-◌}
use native.Mathlib.Omega.{arith}
use Rattle.lists.specs.Lists.{from, range, flat}
use Rattle.print.specs.Listing.{transition_line}
use Rattle.print.specs.Inner.Cursors.{Cursor, cursor_at, write}
use Rattle.print.proofs.Lines.{lines_more, lines-done}
use Rattle.print.proofs.Writing.{write-stopped}
use Rattle.print.proofs.put_transitions.Goals as goal

pub returns-then-p : goal.returns-then-p
returns-then-p c =
    let a = c.args in
    let start = cursor_at a.out.now a.at in
    let l = c.loop-transition in
    sym
    (ap (λ (n : ℕ). write start (flat (transition_line a.image.now) (range n))) (sym c.word-count.ensures.is)
    ∙ l.invariant.0
    ∙ write-stopped _ _ c.if-p.true)

pub loop-transition-preserved : goal.loop-transition-preserved
loop-transition-preserved c =
    let l = c.loop-transition in
    let image = c.args.image.now in
    let count = c.word-count.result in
    let put = c.put_transition-p in (
      l.invariant.0
          ∙ lines_more _ image l.transition count (omega arith)
          ∙ ap (λ (d : Cursor). write d (flat (transition_line image) (from (l.transition + 1) (count - (l.transition + 1))))) (sym put.ensures),
      put.auto.out ∙ l.invariant.1,
    )

pub returns : goal.returns
returns c =
    let a = c.args in
    let start = cursor_at a.out.now a.at in
    let l = c.loop-transition in
    sym
    (ap (λ (n : ℕ). write start (flat (transition_line a.image.now) (range n))) (sym c.word-count.ensures.is)
    ∙ l.invariant.0
    ∙ lines-done _ _ _ _ c.loop-transition-test.false)
