use mathlib.Core.Path.{refl, ◌∙◌}
use Rattle.lists.specs.Lists.{from, some}
use Rattle.scheme.specs.Index.{definitions_in}
use Rattle.rewriting.specs.Inner.Copying.{called_by_itself}
use Rattle.rewriting.proofs.Laws.Marks.{mark-next, mark-length}
use Rattle.rewriting.proofs.copies.mark_callers.Goals as goal

pub loop-n-init : goal.loop-n-init
unfolding called_by_itself some from
loop-n-init c = (c.word-nodes.ensures.is, refl, λ d l. refl)

pub loop-n-preserved : goal.loop-n-preserved
loop-n-preserved c =
    let a = c.args in
    let l = c.loop-n in
    let e = c.mark_caller.ensures in (
      l.invariant.0,
      mark-length a.table.now (definitions_in a.index.now) l.n 0 l.marks _ e ∙ l.invariant.1,
      λ d u. mark-next a.table.now (definitions_in a.index.now) l.n d l.marks _ _ (rw l.invariant.1 u) e (l.invariant.2 d u),
    )
