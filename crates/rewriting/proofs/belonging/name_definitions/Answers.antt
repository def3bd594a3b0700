use mathlib.Core.Path.{◌∙◌}
use Prim.Native.Nat.{◌<◌}
use native.Mathlib.Omega.{arith}
use Rattle.scheme.specs.Words.{names}
use Rattle.table.proofs.Inside.{counted}
use Rattle.rewriting.proofs.Family.{sound}
use Rattle.rewriting.proofs.Laws.Stored.{set_long}
use Rattle.rewriting.proofs.Laws.Belongs.{name-definition-is, name-definition-small, named-next}
use Rattle.rewriting.proofs.belonging.name_definitions.Goals as goal

pub overflow_cast-d : goal.overflow_cast-d
overflow_cast-d c =
    let l = c.loop-x in
    let p = c.requires in
    omega (
      arith,
      name-definition-small _ _ p.0 l.x (omega (arith, l.auto.x, c.word-publics.ensures.is)) (omega (arith, l.invariant.1, c.loop-x-test.true)) _ c.name_definition-d.ensures,
    )

pub loop-x-preserved : goal.loop-x-preserved
loop-x-preserved c =
    let l = c.loop-x in
    let v = l.invariant in
    let p = c.requires in
    let w = c.args.table.now in
    let few = counted w (sound w p.0.ok).counts in
    let u : l.x < names w = omega (arith, v.1, c.loop-x-test.true) in
    let s = c.store.ensures in (
      set_long l.out _ l.x c.name_definition-d.result s ∙ v.0,
      v.1,
      named-next w l.out _ l.x c.name_definition-d.result (omega (arith, v.0, u, few.few-publics, few.few-bounds))
          (c.name_definition-d.ensures ∙ name-definition-is _ _ p.0 l.x (omega (arith, l.auto.x, c.word-publics.ensures.is)) u) s v.2,
    )
