use mathlib.Core.Path.{◌≡◌, sym, ap, subst, ◌∙◌}
use mathlib.Core.List.{[], ◌∷◌}
use Prim.Native.Nat.{◌<◌}
use native.Mathlib.Omega.{arith}
use Rattle.lists.specs.Lists
use Rattle.lists.proofs.Ranges.{flat-more, flat-done}
use Rattle.scheme.specs.Words.{branches, next}
use Rattle.scheme.specs.Scheme.{scheme}
use Rattle.places.specs.Transitions.{silents, going}
use Rattle.builder.specs.Inner.Writing.{Inside}
use Rattle.places.specs.Inner.Plan.{today}
use Rattle.builder.specs.Inner.Parts.{put, state, of_table}
use Rattle.builder.proofs.Writing.{put-none}
use Rattle.builder.proofs.Chains.{put_as, inside-as, state-length}
use Rattle.builder.proofs.ChainLoops.{part-inside, part-more}
use Rattle.places.proofs.ByWords.{few-branches}
use Rattle.builder.proofs.NodeArrows.{silents_at, going-arrow, silent-none, silent-one, silent-inside}
use Rattle.places.specs.Plan.{nodes_in}
use Rattle.places.proofs.Plans.{node-is}
use Rattle.builder.proofs.nodes.silents.Goals.{then-field4-eq0, else-field4-eq0}
use Rattle.builder.proofs.nodes.silents.Goals as goal

pub go-q-requires : goal.go-q-requires
go-q-requires c =
    let a = c.args in
    let p = c.requires in
    let w = a.table.now in
    let l = c.loop-b in
    let g = silents_at w a.n in
    let t = c.loop-b-test.true in
    let u : l.b < branches w = omega (arith, t, p.2) in
    let e = sym c.field4.ensures.is ∙ c.if-field4-eq0.true in
    let i = silent-inside w p.0.accepted l.b u e in
    let d : Inside (put w l.out l.q (going (scheme w) (today w) a.n l.b (next w l.b) ∷ [])) =
    subst Inside (ap (put w l.out l.q) (silent-one w p.0.accepted l.b u e a.n))
    (part-inside (of_table w) _ (state l.out l.q) _ _ (l.invariant.0 ∙ ap (put w l.out l.q) (flat-more g l.b a.end t)) p.3) in (
      omega (arith, few-branches w p.0.accepted, u),
      inside-as w l.out l.q _ _
          (going-arrow w a.n l.b (next w l.b) c.node_start-from.result
          c.node_start.result p.1 i
          (c.node_start-from.ensures.is ∙ node-is w a.index.now p.0 a.n (omega (arith, p.1)))
          (c.node_start.ensures.is ∙ ap (Lists.word (nodes_in a.index.now)) c.field4-then-field4-eq0.ensures.is ∙ node-is w a.index.now p.0
          (next w l.b) (omega (arith, i)))) d,
    )

pub loop-b-preserved : goal.loop-b-preserved
loop-b-preserved c =
    let turn : let a = c.args in
    state c.if-field4-eq0.out c.if-field4-eq0.q
    ≡ put a.table.now c.loop-b.out c.loop-b.q
    (silents (scheme a.table.now) (today a.table.now) a.n c.loop-b.b
    ((scheme a.table.now).branch c.loop-b.b)) =
    let a = c.args in
    let p = c.requires in
    let w = a.table.now in
    let l = c.loop-b in
    let k = c.field4 in
    let u : l.b < branches w = omega (arith, c.loop-b-test.true, p.2) in
    elim c.if-field4-eq0.branch [
      | then-field4-eq0 x ↦ let e = sym k.ensures.is ∙ x.if-field4-eq0.true in
          let i = silent-inside w p.0.accepted l.b u e in
          rw (x.out-is, x.q-is) (x.go-q.ensures ∙ sym (ap (put w l.out l.q) (silent-one w p.0.accepted l.b u e a.n)
          ∙ put_as w l.out l.q _ _ (going-arrow w a.n l.b (next w l.b) c.node_start-from.result x.node_start.result p.1 i
          (c.node_start-from.ensures.is ∙ node-is w a.index.now p.0 a.n (omega (arith, p.1)))
          (x.node_start.ensures.is ∙ ap (Lists.word (nodes_in a.index.now)) x.field4-then-field4-eq0.ensures.is ∙ node-is w a.index.now p.0 (next w l.b) (omega
          (arith, i))))))
      | else-field4-eq0 x ↦ rw (x.out-is, x.q-is)
          (sym (ap (put w l.out l.q) (silent-none w a.n l.b (λ e. x.if-field4-eq0.false (k.ensures.is ∙ e))) ∙ put-none (of_table w) (state l.out l.q)))
    ] in
    let a = c.args in
    let w = a.table.now in
    let l = c.loop-b in
    let g = silents_at w a.n in (
      part-more (of_table w) _ (state l.out l.q) _ _
          (l.invariant.0 ∙ ap (put w l.out l.q) (flat-more g l.b a.end c.loop-b-test.true)) _ turn,
      state-length w l.out _ l.q _ _ turn ∙ l.invariant.1,
    )

pub returns : goal.returns
returns c =
    let a = c.args in
    let w = a.table.now in
    let l = c.loop-b in
    let g = silents_at w a.n in
    sym (l.invariant.0 ∙ ap (put w l.out l.q) (flat-done g l.b a.end c.loop-b-test.false) ∙ put-none (of_table w) (state l.out l.q))
