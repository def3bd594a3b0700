use mathlib.Core.Path.{◌≡◌, sym, ap, subst, ◌∙◌}
use mathlib.Core.List.{List, [], ◌∷◌, map}
use Prim.Native.Nat.{ℕ}
use Rattle.lists.specs.Lists.{from, range}
use Rattle.places.specs.Transitions.{Description}
use Rattle.builder.specs.Inner.Writing.{put_all, Inside}
use Rattle.builder.specs.Inner.Parts.{state, put, told, told_by, arcs, risen, risers_of, Tells, Spotted, sent_at}
use Rattle.builder.specs.declared.write.Arcs.{Arcs}
use Rattle.builder.proofs.Pairs.{told-put, told-inside}
use Rattle.builder.proofs.Runs.{run-one, run-series, run-few}
use Rattle.builder.proofs.communications.tell.Goals.{After-arcs_of-t}
use Rattle.builder.proofs.communications.tell.Goals as goal

-- ---- where the arcs are filled in

-- the arcs
abbrev filled : After-arcs_of-t → Arcs
filled c =
    let t = c.arcs_of-t in
    arcs t.new.ins t.result.inputs t.new.outs t.result.outputs

-- a run of one value
one_told : (c : After-arcs_of-t) → c.args.s.count ≡ 1
    → map (told_by c.args.table.now c.args.p c.args.way) (from c.args.s.low c.args.s.count)
    ≡ told c.args.table.now c.args.p.send c.args.p.receive c.either-i.result c.either-j.result ∷ []
one_told c e =
    let a = c.args in
    run-one a.table.now a.p a.way a.s.low a.s.count _ _ e c.either-i.ensures c.either-j.ensures

-- a run of more
series-is : (c : After-arcs_of-t) → let a = c.args in
    put a.table.now a.out.now a.h (map (told_by a.table.now a.p a.way) (from a.s.low a.s.count))
    ≡ put_all (risen 4 a.p.send a.p.receive (filled c) (risers_of a.way c.arcs_of-t.result.spots)) (state a.out.now a.h)
    (range a.s.count)
series-is c =
    let a = c.args in
    let w = a.table.now in
    let r = c.arcs_of-t.result in
    let e = c.arcs_of-t.ensures in
    let i = c.either-i.ensures in
    let j = c.either-j.ensures in
    run-series w c.requires.0.accepted a.p c.requires.1 a.way a.s.low a.s.count c.requires.2 (filled c) r.spots
    (subst (λ (i : ℕ). Tells w a.p i (sent_at a.way a.s.low) (filled c)) i (subst (λ (j : ℕ). Tells w a.p c.either-i.result j (filled c)) j e.0))
    (subst (λ (i : ℕ). Spotted w a.p i (sent_at a.way a.s.low) r.spots) i (subst (λ (j : ℕ). Spotted w a.p c.either-i.result j r.spots) j e.1))
    a.out.now a.h

pub transition-requires : goal.transition-requires
transition-requires c =
    let a = c.args in
    let w = a.table.now in
    let g = (goal.at.transition-requires c).After-arcs_of-t in
    told-inside w c.requires.0.accepted a.p c.requires.1 _ _ a.out.now a.h (filled g) c.arcs_of-t.ensures.0
    (subst (λ (ds : List Description). Inside (put w a.out.now a.h ds)) (one_told g c.if-s-eq1.true) c.requires.3)

pub returns-then-s-eq1 : goal.returns-then-s-eq1
returns-then-s-eq1 c =
    let a = c.args in
    let w = a.table.now in
    let g = (goal.at.returns-then-s-eq1 c).After-arcs_of-t in
    c.transition.ensures ∙ sym (told-put w c.requires.0.accepted a.p c.requires.1 _ _ a.out.now a.h (filled g) c.arcs_of-t.ensures.0)
    ∙ ap (put w a.out.now a.h) (sym (one_told g c.if-s-eq1.true))

pub series-requires : goal.series-requires
series-requires c =
    let a = c.args in
    let f = run-few a.table.now c.requires.0.accepted a.p c.requires.1 a.way a.s.low a.s.count c.requires.2 in
    let is = series-is (goal.at.series-requires c).After-arcs_of-t in
    rw c.risers.ensures (f.0, f.1, f.2, c.arcs_of-t.ensures.0.short, subst Inside is c.requires.3)

pub returns : goal.returns
returns c =
    let a = c.args in
    let g = (goal.at.returns c).After-arcs_of-t in
    c.series.ensures
    ∙ ap (λ (r : List ℕ). put_all (risen 4 a.p.send a.p.receive (filled g) r) (state a.out.now a.h) (range a.s.count)) c.risers.ensures
    ∙ sym (series-is g)
