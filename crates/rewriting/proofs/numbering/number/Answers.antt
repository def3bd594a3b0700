use mathlib.Core.Path.{◌≡◌, refl, ◌∙◌}
use Prim.Native.Nat.{suc, ◌+◌, ◌-◌, ◌≤◌, ◌<◌}
use native.Mathlib.Omega.{arith}
use lib.ListN.{length}
use Rattle.rewriting.proofs.Laws.Stored.{set_long}
use Rattle.rewriting.proofs.Laws.Placed.{fill_sets, filled-long, filled-here, filled-others, place_end, place-turn, others-turn}
use Rattle.rewriting.proofs.numbering.number.Goals as goal

pub loop-i-init : goal.loop-i-init
loop-i-init c =
    let a = c.args in
    let e = fill_sets _ _ a.at _ 257 _ (omega arith) c.requires.room (c.fill.ensures.after (λ y q. q)) in (
      refl,
      λ x h. filled-here a.out.now _ a.at _ e c.requires.room x h ∙ place_end a.originals.now x,
      λ k o. refl,
    )

pub loop-i-preserved : goal.loop-i-preserved
loop-i-preserved c =
    let a = c.args in
    let p = c.requires in
    let l = c.loop-i in
    let v = l.invariant in
    let t = c.loop-i-test.true in
    let d : l.i ≡ suc (l.i - 1) = omega (arith, t) in
    let b : l.i - 1 < length a.originals.now = omega (arith, t, l.auto.i) in
    let e = fill_sets _ _ a.at _ 257 _ (omega arith) p.room (c.fill.ensures.after (λ y q. q)) in
    let r : a.at + 257 ≤ length l.out = omega (arith, p.room, v.0, filled-long a.out.now _ a.at _ e) in
    let s = c.store.ensures in (
      set_long l.out _ (a.at + c.word.result) (l.i - 1) s ∙ v.0,
      λ x h. place-turn a.originals.now l.out _ a.at l.i (l.i - 1) c.word.result d b c.word.ensures.is p.small r s x (v.1 x h),
      λ k o. others-turn a.originals.now l.out _ a.at l.i (l.i - 1) c.word.result d b c.word.ensures.is p.small r s k o ∙ v.2 k o,
    )

pub returns : goal.returns
returns c =
    let a = c.args in
    let l = c.loop-i in
    let z : l.i ≡ 0 = omega (arith, c.loop-i-test.false) in
    let e = fill_sets _ _ a.at _ 257 _ (omega arith) c.requires.room (c.fill.ensures.after (λ y q. q)) in
    record {
      long = l.invariant.0 ∙ filled-long a.out.now _ a.at _ e;
      here = λ x h. l.invariant.1 x h ∙ rw z (omega arith);
      others = λ k o. l.invariant.2 k o ∙ filled-others a.out.now _ a.at _ e k o;
    }
