use mathlib.Core.Path.{◌≡◌, refl, sym, ap, subst, ◌∙◌}
use mathlib.Core.List.{[]}
use Prim.Native.Nat.{ℕ, ◌<◌}
use native.Mathlib.Nat.{sub-zero}
use native.Mathlib.Omega.{arith}
use lib.ListN.{length}
use Rattle.lists.specs.Lists.{from, range, flat}
use Rattle.scheme.specs.Words.{branches}
use Rattle.places.specs.Sides.{side_in, partner_set}
use Rattle.places.specs.declared.count.Side.{Side}
use Rattle.places.specs.Starts.{Right}
use Rattle.places.proofs.Starts.{right-first, right-few, counted-on, on_row}
use Rattle.builder.specs.Inner.Writing.{Inside}
use Rattle.builder.specs.Inner.Parts.{of_table, state, put, with_all_of}
use Rattle.builder.proofs.Partners.{flat-done, flat-inside, flat-more, flat-skip, same-state, set_told, set-done}
use Rattle.builder.proofs.communications.communications.Goals.{then-set-ne0, else-set-ne0}
use Rattle.builder.proofs.communications.communications.Goals as goal

pub loop-s-init : goal.loop-s-init
loop-s-init c =
    let a = c.args in
    let w = a.table.now in
    let r = right-first w a.index.now c.requires.0 in
    (ap (λ (k : ℕ). put w a.out.now a.h (flat (with_all_of w) (from 0 k))) (sym (sub-zero c.word-branches.result)), refl, r, r)

pub overflow_cast-own : goal.overflow_cast-own
overflow_cast-own c =
    let right-a : Right c.args.table.now c.args.index.now c.row_on-a.result =
    counted-on c.args.table.now c.args.index.now c.requires.0 c.loop-s.a c.loop-s.invariant.2 c.row_on-a.result _ c.row_on-a.ensures in
    omega (arith, right-few c.args.table.now c.args.index.now c.requires.0 c.row_on-a.result right-a)

pub overflow_cast-own-then-set-ne0 : goal.overflow_cast-own-then-set-ne0
overflow_cast-own-then-set-ne0 c =
    let right-z : Right c.args.table.now c.args.index.now c.row_on-z.result =
    counted-on c.args.table.now c.args.index.now c.requires.0 c.loop-s.z c.loop-s.invariant.3 c.row_on-z.result _ c.row_on-z.ensures in
    omega (arith, right-few c.args.table.now c.args.index.now c.requires.0 c.row_on-z.result right-z)

pub partners-q-requires : goal.partners-q-requires
partners-q-requires c =
    let inside : c.loop-s.s < branches c.args.table.now =
    omega (arith, c.loop-s-test.true, c.word-branches.ensures.is) in
    let set_is : c.word-set.result ≡ partner_set c.args.table.now c.args.index.now c.loop-s.s =
    c.word-set.ensures.is ∙ c.requires.1.sets-are c.loop-s.s inside in
    let a = c.args in
    let w = a.table.now in
    let x = a.index.now in
    let l = c.loop-s in
    let n = c.word-branches in
    let d = c.side_of-side.result in
    let e = c.side_of-side.ensures in
    let b : d.branch ≡ l.s = ap (λ (v : Side). v.branch) e in
    let i = subst (λ (k : ℕ). Inside (put w a.out.now a.h (flat (with_all_of w) (range k)))) (sym n.ensures.is) c.requires.2 in (
      c.requires.0,
      c.requires.1,
      omega (arith, b, inside),
      set_is ∙ ap (partner_set w x) (sym b),
      subst (λ (k : ℕ). Inside (put w l.out l.q (with_all_of w k))) (sym b)
          (flat-inside (of_table w) (put w a.out.now a.h (flat (with_all_of w) (range n.result))) (state l.out l.q) (with_all_of w) l.s n.result
          l.invariant.0 c.loop-s-test.true i),
      e ∙ ap (side_in w x) (sym b),
      on_row w x c.requires.0 l.a l.invariant.2 c.row_on-a.result d.channel c.row_on-a.ensures,
      on_row w x c.requires.0 l.z l.invariant.3 c.row_on-z.result d.name c.row_on-z.ensures,
      c.receive_rows-rows.ensures,
    )

pub loop-s-preserved : goal.loop-s-preserved
loop-s-preserved c =
    let inside : c.loop-s.s < branches c.args.table.now =
    omega (arith, c.loop-s-test.true, c.word-branches.ensures.is) in
    let set_is : c.word-set.result ≡ partner_set c.args.table.now c.args.index.now c.loop-s.s =
    c.word-set.ensures.is ∙ c.requires.1.sets-are c.loop-s.s inside in
    let none : c.word-set.result ≡ 0 → with_all_of c.args.table.now c.loop-s.s ≡ [] =
    λ e. let w = c.args.table.now in
    let b = c.loop-s.s in
    set_told w c.args.index.now c.requires.0 b inside ∙ set-done w b _ (sym set_is ∙ e) in
    let a = c.args in
    let w = a.table.now in
    let x = a.index.now in
    let l = c.loop-s in
    let n = c.word-branches in
    let h = c.loop-s-test.true in
    let t = state c.if-set-ne0.out c.if-set-ne0.q in
    elim c.if-set-ne0.branch [
      | then-set-ne0 v ↦ (
        flat-more (of_table w) (put w a.out.now a.h (flat (with_all_of w) (range n.result))) (state l.out l.q) (with_all_of w) l.s n.result
            l.invariant.0 h t
            (same-state v.partners-q.new.out c.if-set-ne0.out v.partners-q.result c.if-set-ne0.q v.out-is v.q-is ∙ v.partners-q.ensures
            ∙ ap (λ (d : Side). put w l.out l.q (with_all_of w d.branch)) v.side_of-side.ensures),
        ap length v.out-is ∙ v.partners-q.auto.out ∙ l.invariant.1,
        counted-on w x c.requires.0 l.a l.invariant.2 c.if-set-ne0.a _ (v.a-is ∙ v.row_on-a.ensures),
        counted-on w x c.requires.0 l.z l.invariant.3 c.if-set-ne0.z _ (v.z-is ∙ v.row_on-z.ensures),
      )
      | else-set-ne0 v ↦ (
        flat-skip (of_table w) (put w a.out.now a.h (flat (with_all_of w) (range n.result))) (state l.out l.q) (with_all_of w) l.s n.result
            l.invariant.0 h t (same-state l.out c.if-set-ne0.out l.q c.if-set-ne0.q v.out-is v.q-is) (none v.if-set-ne0.false),
        ap length v.out-is ∙ l.invariant.1,
        subst (Right w x) (sym v.a-is) l.invariant.2,
        subst (Right w x) (sym v.z-is) l.invariant.3,
      )
    ]

pub returns : goal.returns
returns c =
    let a = c.args in
    let w = a.table.now in
    let l = c.loop-s in
    let n = c.word-branches in
    flat-done (of_table w) (put w a.out.now a.h (flat (with_all_of w) (range n.result))) (state l.out l.q) (with_all_of w) l.s n.result
    l.invariant.0 c.loop-s-test.false
    ∙ ap (λ (k : ℕ). put w a.out.now a.h (flat (with_all_of w) (range k))) n.ensures.is
