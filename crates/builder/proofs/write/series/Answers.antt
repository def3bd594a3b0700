use mathlib.Core.Path.{refl, ◌∙◌}
use mathlib.Core.List.{List, [], ◌∷◌}
use Prim.Native.Nat.{ℕ, ◌+◌, ◌≤◌, ◌<◌}
use native.Mathlib.Omega.{arith}
use lib.ListN.{length}
use Rattle.builder.specs.Inner.Writing.{heads, put_one_transition, Inside}
use Rattle.builder.specs.Inner.Parts.{risen}
use Rattle.builder.proofs.Series.{Merged, merge, steady, series-done, series-inside, series-room, series-more}
use Rattle.builder.proofs.write.series.Goals.{After-masks_of-masks, In-loop-t}
use Rattle.builder.proofs.write.series.Goals as goal

-- ---- what is known where the loop starts, and in a turn

-- the list before it is written
abbrev zeros : List ℕ
zeros = 0 ∷ 0 ∷ 0 ∷ 0 ∷ 0 ∷ 0 ∷ 0 ∷ 0 ∷ 0 ∷ 0 ∷ 0 ∷ 0 ∷ 0 ∷ 0 ∷ 0 ∷ 0 ∷ []

-- the list has the inputs and behind them the outputs, and the masks are those of its words
merged : (c : After-masks_of-masks)
    → Merged c.args.arcs c.args.rise c.words-size.new.out c.masks_of-masks.result c.words-size.result
merged c =
    let w = c.words-middle in
    let v = c.words-size in
    merge c.args.arcs c.args.rise zeros w.new.out v.new.out c.masks_of-masks.result w.result v.result c.requires.3 refl w.ensures.1
    w.ensures.0 v.ensures.1 v.ensures.0 c.masks_of-masks.ensures

-- the transition of a turn is written within the buffer
inside : (c : In-loop-t)
    → Merged c.args.arcs c.args.rise c.words-size.new.out c.masks_of-masks.result c.words-size.result
    → let a = c.args in
    let l = c.loop-t in
    Inside (put_one_transition (heads l.out l.place l.arc) (risen a.label.kind a.label.a a.label.b a.arcs a.rise l.t))
inside c m =
    let a = c.args in
    series-inside a.arcs a.rise c.words-size.new.out c.masks_of-masks.result c.words-size.result m a.label.kind a.label.a a.label.b _ _
    c.loop-t.t a.count c.loop-t.invariant.0 c.loop-t-test.true c.requires.4

-- so its record and its arcs have room
room : (c : In-loop-t)
    → Merged c.args.arcs c.args.rise c.words-size.new.out c.masks_of-masks.result c.words-size.result
    → (c.loop-t.place + 6 ≤ length c.loop-t.out) × (c.loop-t.arc + c.words-size.result ≤ length c.loop-t.out) × (c.loop-t.arc < 4294967296)
room c m =
    let a = c.args in
    series-room a.arcs a.rise c.words-size.new.out c.masks_of-masks.result c.words-size.result m a.label.kind a.label.a a.label.b _ _
    c.loop-t.t a.count c.loop-t.invariant.0 c.loop-t-test.true c.requires.4

-- a turn's number is small
few : (c : In-loop-t) → c.loop-t.t < 65535
few c = omega (arith, c.requires.2, c.loop-t-test.true)

-- ---- the answers

pub put_record-requires : goal.put_record-requires
put_record-requires c =
    let at = goal.at.put_record-requires c in
    let r = room at.In-loop-t (merged at.After-masks_of-masks) in
    let p = c.requires in
    (r.0, p.0, p.1, r.2, omega (arith, p.3.ins-fit), omega (arith, p.3.outs-fit))

pub raised-arc-requires : goal.raised-arc-requires
raised-arc-requires c =
    let at = goal.at.raised-arc-requires c in
    let m = merged at.After-masks_of-masks in (
      m.few,
      omega (arith, (room at.In-loop-t m).1, c.put_record.auto.out),
      steady c.args.arcs c.args.rise c.words-size.new.out c.masks_of-masks.result c.words-size.result m,
      omega (arith, few at.In-loop-t),
    )

pub overflow_add-place : goal.overflow_add-place
overflow_add-place c =
    let at = goal.at.overflow_add-place c in
    omega (arith, (inside at.In-loop-t (merged at.After-masks_of-masks)).place-small)

pub loop-t-preserved : goal.loop-t-preserved
loop-t-preserved c =
    let at = goal.at.loop-t-preserved c in
    let a = c.args in
    let d = c.put_record in
    let r = c.raised-arc in (
      series-more a.arcs a.rise c.words-size.new.out c.masks_of-masks.result c.words-size.result (merged at.After-masks_of-masks)
          a.label.kind a.label.a a.label.b _ _ c.loop-t.t a.count c.loop-t.invariant.0 c.loop-t-test.true d.new.out r.new.out r.result
          d.ensures r.ensures.1 r.ensures.0 (omega (arith, few at.In-loop-t)),
      r.auto.out ∙ d.auto.out ∙ c.loop-t.invariant.1,
    )

pub returns : goal.returns
returns c =
    let a = c.args in
    let l = c.loop-t in
    series-done a.arcs a.rise c.words-size.new.out c.masks_of-masks.result c.words-size.result
    (merged (goal.at.returns c).After-masks_of-masks) a.label.kind a.label.a a.label.b _ (heads l.out l.place l.arc) l.t a.count l.invariant.0
    c.loop-t-test.false
