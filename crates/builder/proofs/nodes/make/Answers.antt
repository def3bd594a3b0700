use mathlib.Core.Path.{◌≡◌, sym, subst}
use mathlib.Core.List.{List, ◌∷◌}
use Prim.Native.Nat.{ℕ}
use native.Mathlib.Omega.{arith}
use lib.ListN.{take}
use Rattle.scheme.specs.Words.{node_first, node_second}
use Rattle.scheme.specs.Scheme.{scheme}
use Rattle.places.specs.Places.{Place, equals, free, control}
use Rattle.places.specs.Inner.Arcs.{all_differ}
use Rattle.builder.specs.Inner.Parts.{Rising, Filled, of_table, made, arrow}
use Rattle.places.proofs.Controls.{few-nodes, few-bounds}
use Rattle.builder.proofs.Chains.{has-free-value, put-from, inside-as}
use Rattle.builder.proofs.Filling.{fill-with, fill-few, fill-rising}
use Rattle.builder.proofs.NodeArrows.{first-place, first-number}
use Rattle.builder.proofs.Making.{all-length, made_inside, made_holds, made-arrow}
use Rattle.builder.proofs.nodes.make.Goals.{After-risen-i, After-insert_equals-o, After-insert-o, After-insert-i, After-insert-i-2}
use Rattle.builder.proofs.nodes.make.Goals as goal

-- ---- the places that are put in, of a New at node n with the value v

abbrev read : (w : List ℕ) (v : ℕ) → List Place
read w v = all_differ (scheme w) v

abbrev given : (w : List ℕ) (n v : ℕ) → List Place
given w n v = equals (node_first w n) v ∷ read w v

abbrev taken : (w : List ℕ) (v : ℕ) → List Place
taken w v = free v ∷ read w v

-- the numbers that both lists begin with
first : (c : After-risen-i) → Filled c.args.table.now c.risen-i.new.list c.risen-i.result (read c.args.table.now c.args.v)
first c = record { holds = c.risen-i.ensures.0; size = c.risen-i.ensures.1 }

-- they ascend
rises : (c : After-risen-i) → Rising c.risen-i.new.list c.risen-i.result
rises c =
    let w = c.args.table.now in
    let h = c.requires.0.accepted in
    fill-rising w h _ _ (read w c.args.v) (omega (arith, c.risen-i.auto.list, all-length w c.args.v, few-bounds w h)) (first c)

-- the outputs: the place of the name's value, if there is one
given-in : (c : After-insert_equals-o)
    → Filled c.args.table.now c.risen-i.new.list c.risen-i.result (read c.args.table.now c.args.v)
    → Filled c.args.table.now c.insert_equals-o.new.list c.insert_equals-o.result (given c.args.table.now c.args.m.node c.args.v)
given-in c f =
    let w = c.args.table.now in
    let v = c.args.v in
    let l = c.insert_equals-o in
    subst (λ (x : ℕ). Filled w l.new.list l.result (equals x v ∷ read w v)) c.field3-name.ensures.is (l.ensures (read w v) f)

-- the outputs: the place behind the New
outputs : (c : After-insert-o)
    → Filled c.args.table.now c.insert_equals-o.new.list c.insert_equals-o.result (given c.args.table.now c.args.m.node c.args.v)
    → Filled c.args.table.now c.insert-o.new.list c.insert-o.result
    (control (node_second c.args.table.now c.args.m.node) 0 ∷ given c.args.table.now c.args.m.node c.args.v)
outputs c f =
    let p = c.requires in
    let w = c.args.table.now in
    let m = c.args.m in
    let l = node_second w m.node in
    fill-with w c.insert_equals-o.new.list c.insert-o.new.list c.insert_equals-o.result c.insert-o.result m.to (control l 0)
    (given w m.node c.args.v) (first-place w l (made_inside w p.0.accepted m.node p.1 p.2)) (sym (first-number w l m.to p.4))
    c.insert-o.ensures f

-- the inputs: the free value's place
taken-in : (c : After-insert-i)
    → Filled c.args.table.now c.risen-i.new.list c.risen-i.result (read c.args.table.now c.args.v)
    → Filled c.args.table.now c.insert-i.new.list c.insert-i.result (taken c.args.table.now c.args.v)
taken-in c f =
    let p = c.requires in
    let w = c.args.table.now in
    let v = c.args.v in
    fill-with w c.risen-i.new.list c.insert-i.new.list c.risen-i.result c.insert-i.result c.free_place.result (free v) (read w v)
    (has-free-value w v p.5 p.6) c.free_place.ensures c.insert-i.ensures f

-- the inputs: the place of the New
inputs : (c : After-insert-i-2)
    → Filled c.args.table.now c.insert-i.new.list c.insert-i.result (taken c.args.table.now c.args.v)
    → Filled c.args.table.now c.insert-i-2.new.list c.insert-i-2.result (control c.args.m.node 0 ∷ taken c.args.table.now c.args.v)
inputs c f =
    let p = c.requires in
    let w = c.args.table.now in
    let m = c.args.m in
    fill-with w c.insert-i.new.list c.insert-i-2.new.list c.insert-i.result c.insert-i-2.result m.from (control m.node 0)
    (taken w c.args.v) (first-place w m.node p.1) (sym (first-number w m.node m.from p.3)) c.insert-i-2.ensures f

-- the New with this value, as an arrow
arrow-is : (c : After-insert-i-2)
    → Filled c.args.table.now c.insert-i-2.new.list c.insert-i-2.result (control c.args.m.node 0 ∷ taken c.args.table.now c.args.v)
    → Filled c.args.table.now c.insert-o.new.list c.insert-o.result
    (control (node_second c.args.table.now c.args.m.node) 0 ∷ given c.args.table.now c.args.m.node c.args.v)
    → of_table c.args.table.now (made c.args.table.now c.args.m.node c.args.v)
    ≡ arrow 2 c.args.m.node c.field3-name.result (take c.insert-i-2.result c.insert-i-2.new.list) (take c.insert-o.result c.insert-o.new.list)
arrow-is c i o =
    let a = c.args in
    let p = c.requires in
    let f = c.field3-name in
    made-arrow a.table.now p.0.accepted a.m.node p.1 p.2 a.v f.result _ _ _ _ f.ensures.is i o

-- ---- what the calls ask

pub insert_equals-o-requires : goal.insert_equals-o-requires
insert_equals-o-requires c =
    let w = c.args.table.now in
    let p = c.requires in
    let h = made_holds w p.0.accepted c.args.m.node p.1 p.2 c.args.v p.5 p.6 in (
      p.0,
      rw c.field3-name.ensures.is (record { high = h.high; value = h.value }),
      rises (goal.at.insert_equals-o-requires c).After-risen-i,
      rw c.field3-name.ensures.is p.10,
    )

pub insert-o-requires : goal.insert-o-requires
insert-o-requires c =
    let x = goal.at.insert-o-requires c in
    let w = c.args.table.now in
    let h = c.requires.0.accepted in
    fill-rising w h _ _ (given w c.args.m.node c.args.v)
    (omega (arith, c.insert_equals-o.auto.list, c.risen-i.auto.list, all-length w c.args.v, few-bounds w h))
    (given-in x.After-insert_equals-o (first x.After-risen-i))

pub insert-i-requires : goal.insert-i-requires
insert-i-requires c = rises (goal.at.insert-i-requires c).After-risen-i

pub insert-i-requires-2 : goal.insert-i-requires-2
insert-i-requires-2 c =
    let x = goal.at.insert-i-requires-2 c in
    let w = c.args.table.now in
    let h = c.requires.0.accepted in
    fill-rising w h _ _ (taken w c.args.v) (omega (arith, c.insert-i.auto.list, c.risen-i.auto.list, all-length w c.args.v, few-bounds w h))
    (taken-in x.After-insert-i (first x.After-risen-i))

pub transition-requires : goal.transition-requires
transition-requires c =
    let x = goal.at.transition-requires c in
    let f = first x.After-risen-i in
    let i = inputs x.After-insert-i-2 (taken-in x.After-insert-i f) in
    let o = outputs x.After-insert-o (given-in x.After-insert_equals-o f) in
    let a = c.args in
    let p = c.requires in
    let w = a.table.now in
    let h = p.0.accepted in
    let d = c.risen-i.auto.list in (
      omega (arith, few-nodes w h, p.1),
      c.field3-name.ensures.small,
      omega (arith, c.insert-i-2.auto.list, c.insert-i.auto.list, d, fill-few w _ _ _ i, all-length w a.v, few-bounds w h),
      omega (arith, c.insert-o.auto.list, c.insert_equals-o.auto.list, d, fill-few w _ _ _ o, all-length w a.v, few-bounds w h),
      inside-as w a.out.now a.h _ _ (arrow-is x.After-insert-i-2 i o) p.7,
    )

pub returns : goal.returns
returns c =
    let x = goal.at.returns c in
    let f = first x.After-risen-i in
    let i = inputs x.After-insert-i-2 (taken-in x.After-insert-i f) in
    let o = outputs x.After-insert-o (given-in x.After-insert_equals-o f) in
    put-from c.args.table.now c.args.out.now c.args.h _ _ (arrow-is x.After-insert-i-2 i o) _ c.transition.ensures
