use mathlib.Core.Path.{sym, ap, subst, ◌∙◌}
use Prim.Native.Nat.{ℕ, ◌+◌}
use native.Mathlib.Omega.{arith}
use Rattle.lists.proofs.Ranges.{member-from}
use Rattle.scheme.specs.Scheme.{scheme}
use Rattle.places.specs.Inner.Plan.{today, argument_name}
use Rattle.builder.specs.Inner.Parts.{put, state, of_table, Takes}
use Rattle.builder.proofs.Writing.{put-none}
use Rattle.builder.proofs.Chains.{chain-few, state-length}
use Rattle.builder.proofs.ChainLoops.{part-inside, part-more, argument-member, copies-more, copies-done}
use Rattle.places.proofs.Controls.{few-publics, few-bounds}
use Rattle.builder.proofs.chain.copy_all.Goals as goal

pub overflow_add-y-in-loop-i : goal.overflow_add-y-in-loop-i
overflow_add-y-in-loop-i c =
    let a = c.args in
    let p = c.requires in
    let w = a.table.now in
    let f = a.x.formal + c.loop-i.i in
    omega (
      arith,
      (p.4 f (member-from f a.x.formal a.count (omega arith) (omega (arith, c.loop-i-test.true)))).1,
      few-publics w p.0.accepted,
      few-bounds w p.0.accepted,
    )

pub overflow_add-x : goal.overflow_add-x
overflow_add-x c =
    omega (
      arith,
      (chain-few c.args.table.now c.requires.0.accepted c.args.c
          c.requires.1).0,
      c.requires.2,
      c.requires.3,
      c.loop-i-test.true,
    )

pub copy_formal-q-requires : goal.copy_formal-q-requires
copy_formal-q-requires c =
    let a = c.args in
    let p = c.requires in
    let w = a.table.now in
    let l = c.loop-i in
    let y = c.field1 in
    let u = c.loop-i-test.true in
    let f = p.4 (a.x.formal + l.i) (member-from (a.x.formal + l.i) a.x.formal a.count (omega arith) (omega (arith, u))) in
    let n = p.5 y.result (argument-member (argument_name w) a.x.argument a.count l.i y.result u y.ensures.is) in
    let e = copies-more (scheme w) (today w) a.c.node a.c.to (argument_name w) a.x.k a.x.formal a.x.argument a.count l.i y.result u
    y.ensures.is in (
      p.0,
      p.1,
      omega (arith, p.2, u),
      f.0,
      f.1,
      f.2,
      n,
      subst (λ (z : ℕ). Takes w (a.x.formal + l.i) z) (sym y.ensures.is) (p.6 l.i u),
      part-inside (of_table w) _ (state l.out l.q) _ _ (l.invariant.0 ∙ ap (put w l.out l.q) e) p.7,
    )

pub loop-i-preserved : goal.loop-i-preserved
loop-i-preserved c =
    let a = c.args in
    let w = a.table.now in
    let l = c.loop-i in
    let y = c.field1 in
    let u = c.loop-i-test.true in
    let e = copies-more (scheme w) (today w) a.c.node a.c.to (argument_name w) a.x.k a.x.formal a.x.argument a.count l.i y.result u
    y.ensures.is in (
      part-more (of_table w) _ (state l.out l.q) _ _ (l.invariant.0 ∙ ap (put w l.out l.q) e) _ c.copy_formal-q.ensures,
      state-length w l.out _ l.q _ _ c.copy_formal-q.ensures ∙ l.invariant.1,
    )

pub returns : goal.returns
returns c =
    let a = c.args in
    let w = a.table.now in
    let l = c.loop-i in
    let e = copies-done (scheme w) (today w) a.c.node a.c.to (argument_name w) a.x.k a.x.formal a.x.argument a.count l.i
    (omega (arith, c.loop-i-test.false)) in
    sym (l.invariant.0 ∙ ap (put w l.out l.q) e ∙ put-none (of_table w) (state l.out l.q))
