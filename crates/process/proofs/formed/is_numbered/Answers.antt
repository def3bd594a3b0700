use mathlib.Core.Path.{◌≡◌, sym, ◌∙◌}
use Prim.Native.Nat.{◌+◌}
use native.Mathlib.Omega.{arith}
use Rattle.process.proofs.Numbering.{after_turn, numbered-start, numbered_from, numbered_more, numbered-end, seen-grows}
use Rattle.process.proofs.formed.is_numbered.Goals.{After-next_seen}
use Rattle.process.proofs.formed.is_numbered.Goals as goal

-- the comparison after one value more
turned : (c : After-next_seen) → numbered_from c.args.table.now c.args.state.now c.loop-i.seen c.loop-i.i
    ≡ after_turn (λ n. numbered_from c.args.table.now c.args.state.now n (c.loop-i.i + 1)) c.next_seen.result
turned c =
    rw (c.next_seen.ensures, c.word-publics.ensures.is)
    (numbered_more _ _ c.requires.size _ _ _ (omega (arith, c.word-bounds.ensures.is, c.loop-i-test.true)) (c.word.ensures.is ∙ rw c.word-threads.ensures.is) c.word.ensures.small)

pub loop-i-init : goal.loop-i-init
loop-i-init c = (numbered-start _ _ c.requires.size, omega arith)

pub returns-in_default : goal.returns-in_default
returns-in_default c = sym (c.loop-i.invariant.0 ∙ turned (goal.at.returns-in_default c).After-next_seen ∙ rw c.in_default.is)

pub loop-i-preserved : goal.loop-i-preserved
loop-i-preserved c = (
  c.loop-i.invariant.0 ∙ turned (goal.at.loop-i-preserved c).After-next_seen ∙ rw c.in-Some.is,
  omega (arith, c.loop-i.invariant.1, seen-grows _ _ _ _ (sym c.next_seen.ensures ∙ c.in-Some.is)),
)

pub returns : goal.returns
returns c = sym (c.loop-i.invariant.0 ∙ numbered-end _ _ c.requires.size _ _ (omega (arith, c.word-bounds.ensures.is, c.loop-i-test.false)))
