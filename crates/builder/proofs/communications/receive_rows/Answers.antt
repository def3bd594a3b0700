use mathlib.Core.Path.{◌≡◌, refl, sym, ap, subst, ◌∙◌}
use mathlib.Core.List.{List, [], ◌∷◌, ◌++◌}
use Prim.Native.Nat.{ℕ, ◌+◌, ◌*◌}
use native.Mathlib.Omega.{arith}
use lib.ListN.{length, set, length-append, length-set}
use Rattle.lists.specs.Lists.{range, keep, from}
use Rattle.lists.proofs.Tests.{same-yes, same-no}
use Rattle.scheme.specs.Words.{branch_kind, is_receive}
use Rattle.places.specs.Starts.{Right, start_on}
use Rattle.places.proofs.Hearing.{keep-more, list-skip}
use Rattle.places.proofs.Starts.{right-first, right-few, counted-on, on_row}
use Rattle.builder.specs.Inner.Parts.{StartsOf}
use Rattle.builder.proofs.Partners.{starts_more}
use Rattle.builder.proofs.communications.receive_rows.Goals.{then-field4-eq2, else-field4-eq2}
use Rattle.builder.proofs.communications.receive_rows.Goals as goal

pub loop-b-init : goal.loop-b-init
unfolding keep from
loop-b-init c =
    let r = right-first c.args.table.now c.args.index.now c.requires in
    (refl, λ k l h. absurd (omega (arith, l)), refl, omega arith, r, r)

pub overflow_cast-a : goal.overflow_cast-a
overflow_cast-a c =
    let right-a : Right c.args.table.now c.args.index.now c.row_on-a.result =
    counted-on c.args.table.now c.args.index.now c.requires c.loop-b.a c.loop-b.invariant.4 c.row_on-a.result _ c.row_on-a.ensures in
    omega (arith, right-few c.args.table.now c.args.index.now c.requires c.row_on-a.result right-a)

pub overflow_cast-z : goal.overflow_cast-z
overflow_cast-z c =
    let right-z : Right c.args.table.now c.args.index.now c.row_on-z.result =
    counted-on c.args.table.now c.args.index.now c.requires c.loop-b.z c.loop-b.invariant.5 c.row_on-z.result _ c.row_on-z.ensures in
    omega (arith, right-few c.args.table.now c.args.index.now c.requires c.row_on-z.result right-z)

pub loop-b-preserved : goal.loop-b-preserved
loop-b-preserved c =
    let w = c.args.table.now in
    let x = c.args.index.now in
    let l = c.loop-b in
    let f = c.field4.ensures.is in
    elim c.if-field4-eq2.branch [
      | then-field4-eq2 v ↦ let e : c.if-field4-eq2.at ≡ set (set l.at l.k v.row_on-a.result.row) (l.k + 1) v.row_on-z.result.row =
          v.at-is ∙ v.store-then-field4-eq2.ensures ∙ ap (λ (r : List ℕ). set r (l.k + 1) v.row_on-z.result.row) v.store.ensures in
          let m = keep-more w l.b (same-yes (branch_kind w l.b) 2 (sym f ∙ v.if-field4-eq2.true)) in
          let ea = on_row w x c.requires l.a l.invariant.4 v.row_on-a.result _ (v.row_on-a.ensures ∙ ap (start_on w x l.a) v.field4-then-field4-eq2.ensures.is) in
          let ez = on_row w x c.requires l.z l.invariant.5 v.row_on-z.result _ (v.row_on-z.ensures ∙ ap (start_on w x l.z) v.field4-then-field4-eq2-2.ensures.is) in (
            omega (arith, v.k-is, l.invariant.0, ap (λ (bs : List ℕ). length bs) m, length-append (keep (is_receive w) (range l.b)) (l.b ∷ [])),
            subst (StartsOf w c.if-field4-eq2.at) (sym m)
                (subst (λ (rows : List ℕ). StartsOf w rows (keep (is_receive w) (range l.b) ++ (l.b ∷ []))) (sym e)
                (starts_more w l.at (keep (is_receive w) (range l.b)) l.invariant.1 l.invariant.2 l.b _ _ l.k ea ez l.invariant.0)),
            ap (λ (xs : List ℕ). length xs) e ∙ length-set (set l.at l.k v.row_on-a.result.row) (l.k + 1) v.row_on-z.result.row
                ∙ length-set l.at l.k v.row_on-a.result.row
                ∙ l.invariant.2,
            omega (arith, v.k-is, l.invariant.3),
            counted-on w x c.requires l.a l.invariant.4 c.if-field4-eq2.a _ (v.a-is ∙ v.row_on-a.ensures),
            counted-on w x c.requires l.z l.invariant.5 c.if-field4-eq2.z _ (v.z-is ∙ v.row_on-z.ensures),
          )
      | else-field4-eq2 v ↦ let k = list-skip w l.b (same-no (branch_kind w l.b) 2 (λ q. v.if-field4-eq2.false (f ∙ q))) in (
        v.k-is ∙ l.invariant.0 ∙ ap (λ (bs : List ℕ). 2 * length bs) k,
        subst (StartsOf w c.if-field4-eq2.at) k (subst (λ (rows : List ℕ). StartsOf w rows (keep (is_receive w) (range l.b))) (sym v.at-is) l.invariant.1),
        ap (λ (xs : List ℕ). length xs) v.at-is ∙ l.invariant.2,
        omega (arith, v.k-is, l.invariant.3),
        subst (Right w x) (sym v.a-is) l.invariant.4,
        subst (Right w x) (sym v.z-is) l.invariant.5,
      )
    ]
