use mathlib.Core.Path.{refl, ◌∙◌}
use native.Mathlib.Omega.{arith}
use lib.ListN.{length-set}
use Rattle.lists.specs.Lists.{from}
use Rattle.scheme.proofs.Parts.{next-definition, one_more, rest-clear}
use Rattle.scheme.proofs.index.fill_definitions.Goals as goal

pub loop-n-init : goal.loop-n-init
unfolding from
loop-n-init c = (refl, refl)

pub loop-n-preserved : goal.loop-n-preserved
loop-n-preserved c =
    let l = c.loop-n in
    let p = c.requires in
    let v = next-definition _ _ p l.n (omega arith) l.index l.invariant.0 _
    (omega (arith, c.word.ensures.is)) c.definition_word-d.ensures in (
      c.store.ensures ∙ one_more _ _ p l.n (omega arith) l.index l.invariant.0 _ v,
      rw c.store.ensures (simp length-set l.invariant.1),
    )

pub returns : goal.returns
returns c =
    let l = c.loop-n in
    l.invariant.0 ∙ rest-clear _ _ c.requires l.n (omega (arith, l.auto.n-end, c.min-n-end.ensures)) (omega (arith, c.word.ensures.is, c.min-n-end.ensures))
