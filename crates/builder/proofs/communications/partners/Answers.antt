use mathlib.Core.Path.{◌≡◌, refl, sym, ap, subst, ◌∙◌}
use mathlib.Core.List.{List}
use Prim.Native.Nat.{ℕ, ◌<◌}
use native.Mathlib.Omega.{arith}
use lib.Count.{count_trailing_zeros}
use Rattle.lists.specs.Lists.{word}
use Rattle.places.specs.Sets.{bit_at}
use Rattle.places.specs.Sides.{receives_of}
use Rattle.places.specs.Transitions.{Description}
use Rattle.places.proofs.Hearing.{receives-few, set_word}
use Rattle.places.proofs.Scanning.{left-start, left-next, left_in}
use Rattle.builder.specs.Inner.Writing.{Inside}
use Rattle.builder.specs.Inner.Parts.{of_table, state, put, pair_told, with_branch}
use Rattle.builder.proofs.Writing.{put-none}
use Rattle.builder.proofs.Partners.{with_set, set-done, set-inside, set_more, set_told, Meets, meets-known, pair_read, course-read, both_read}
use Rattle.builder.proofs.communications.partners.Goals.{In-loop-left, After-pair_of-p}
use Rattle.builder.proofs.communications.partners.Goals as goal

-- ---- what is known of the receive that is next

met : (c : In-loop-left) → Meets c.args.table.now c.args.index.now c.args.s.side.branch (count_trailing_zeros 64 c.loop-left.left)
met c =
    let l = c.loop-left in
    let k = count_trailing_zeros 64 l.left in
    meets-known c.args.table.now c.args.index.now c.requires.0 c.args.s.side.branch k
    (ap (λ (n : ℕ). bit_at n k) (sym c.requires.3) ∙ left_in c.args.s.set l.left c.loop-left-test.true l.invariant.1)

-- its number is below the number of receives, so its rows are told
few : (c : In-loop-left) → count_trailing_zeros 64 c.loop-left.left < 32
few c = omega (arith, (met c).inside, receives-few c.args.table.now c.requires.0.accepted)

-- what is written of the pair
told : (c : After-pair_of-p) → let w = c.args.table.now in let k = count_trailing_zeros 64 c.loop-left.left in
    Meets w c.args.index.now c.args.s.side.branch k
    → pair_told w c.pair_of-p.result.send c.pair_of-p.result.receive ≡ with_branch w c.args.s.side.branch (word (receives_of w) k)
told c m =
    let a = c.args in
    both_read a.table.now a.index.now a.pairs.now c.requires.0 c.requires.1 a.s.side.branch _ c.requires.2 m a.s.side
    c.receive_at.result a.s.own _ c.pair_of-p.result c.requires.5 c.receive_at.ensures c.pair_of-p.ensures c.requires.6 c.requires.7

pub loop-left-init : goal.loop-left-init
loop-left-init c =
    let a = c.args in
    let w = a.table.now in
    let x = a.index.now in (
      ap (put w a.out.now a.h) (set_told w x c.requires.0 a.s.side.branch c.requires.2 ∙ ap (with_set w a.s.side.branch) (sym c.requires.3)),
      left-start a.s.set (omega (arith, c.requires.3, set_word w x c.requires.0.accepted a.s.side.branch)),
      refl,
    )

pub bounds-rows-at : goal.bounds-rows-at
bounds-rows-at c = omega (arith, few (goal.at.bounds-rows-at c).In-loop-left)

pub bounds-rows-at-in-loop-left : goal.bounds-rows-at-in-loop-left
bounds-rows-at-in-loop-left c = omega (arith, few (goal.at.bounds-rows-at-in-loop-left c).In-loop-left)

pub pair_up-q-requires : goal.pair_up-q-requires
pair_up-q-requires c =
    let a = c.args in
    let w = a.table.now in
    let x = a.index.now in
    let l = c.loop-left in
    let r = c.receive_at in
    let p = c.pair_of-p in
    let g = goal.at.pair_up-q-requires c in
    let m = met g.In-loop-left in
    let rows = c.requires.8 (count_trailing_zeros 64 l.left) m.inside (few g.In-loop-left) in (
      c.requires.0,
      pair_read w x a.pairs.now c.requires.0 c.requires.1 a.s.side.branch _ c.requires.2 m a.s.side r.result a.s.own _ p.result
          c.requires.5 r.ensures p.ensures c.requires.6 c.requires.7 rows.0 rows.1,
      course-read w x a.pairs.now c.requires.0 c.requires.1 a.s.side.branch _ c.requires.2 m a.s.side r.result a.s.own _ p.result
          c.requires.5 r.ensures p.ensures c.requires.6 c.requires.7 c.course_of-course.result c.course_of-course.ensures,
      subst (λ (ds : List Description). Inside (put w l.out l.q ds)) (sym (told g.After-pair_of-p m))
          (set-inside w a.s.side.branch l.left c.loop-left-test.true l.invariant.1.1 _ (state l.out l.q) l.invariant.0 c.requires.4),
    )

pub loop-left-preserved : goal.loop-left-preserved
loop-left-preserved c =
    let a = c.args in
    let w = a.table.now in
    let l = c.loop-left in
    let t = c.loop-left-test.true in
    let g = goal.at.loop-left-preserved c in (
      set_more w a.s.side.branch l.left t l.invariant.1.1 _ (state l.out l.q) l.invariant.0 _
          (c.pair_up-q.ensures ∙ ap (put w l.out l.q) (told g.After-pair_of-p (met g.In-loop-left))),
      left-next a.s.set l.left t l.invariant.1,
      c.pair_up-q.auto.out ∙ l.invariant.2,
    )

pub returns : goal.returns
returns c =
    let a = c.args in
    let w = a.table.now in
    let l = c.loop-left in
    sym (l.invariant.0 ∙ ap (put w l.out l.q) (set-done w a.s.side.branch l.left c.loop-left-test.false) ∙ put-none (of_table w) (state l.out l.q))
