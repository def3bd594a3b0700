use mathlib.Core.List.{List, [], ◌∷◌}
use Prim.Native.Nat.{ℕ}
use mathlib.Core.Path.{sym, subst}
use native.Mathlib.Omega.{arith}
use Rattle.scheme.specs.Words.{next}
use Rattle.scheme.specs.Owners.{home}
use Rattle.places.specs.Places.{Place, equals, differs, control}
use Rattle.builder.specs.declared.communications.Pair.{Pair}
use Rattle.builder.proofs.Pairs.{Filled, fill_none, fill-rising, fill-spot, read_of, takes_of, gives_of}
use Rattle.builder.proofs.Pairs.{move_at, home-inside, send-next, receive-next, tells}
use Rattle.builder.proofs.communications.arcs_of.Goals.{After-insert_spot-c, After-insert_spot-c-2, After-insert_spot-c-3, After-copy_from_slice}
use Rattle.builder.proofs.communications.arcs_of.Goals.{After-insert_spot-o, After-insert-o, After-insert-o-2}
use Rattle.builder.proofs.communications.arcs_of.Goals.{After-insert_spot-c-4, After-insert-c, After-insert-c-2}
use Rattle.builder.proofs.communications.arcs_of.Goals as goal

-- ---- the places in the order in which they are put in: after `places2` come `read_of`, after `places5` `gives_of`, and after `places8` `takes_of`

abbrev places1 : Pair → ℕ → List Place
places1 p i = equals p.channel i ∷ []

abbrev places2 : Pair → ℕ → List Place
places2 p i = equals p.heard i ∷ places1 p i

abbrev places4 : List ℕ → Pair → ℕ → ℕ → List Place
places4 w p i j = equals p.bound j ∷ read_of w p i j

abbrev places5 : List ℕ → Pair → ℕ → ℕ → List Place
places5 w p i j = control (next w p.send) 0 ∷ places4 w p i j

abbrev places7 : List ℕ → Pair → ℕ → ℕ → List Place
places7 w p i j = differs p.bound j ∷ read_of w p i j

abbrev places8 : List ℕ → Pair → ℕ → ℕ → List Place
places8 w p i j = control (home w p.send) 0 ∷ places7 w p i j

-- ---- what a list holds after each step, from what it held before it

-- what is read: the channel of the send, that of the receive, and the sent name
filled1 : (c : After-insert_spot-c) → Filled c.args.table.now c.insert_spot-c.new.list c.insert_spot-c.result (places1 c.args.p c.args.i)
filled1 c =
    fill-spot c.args.table.now c.requires.0.accepted _ _ _ _ _ _ _ (fill_none c.args.table.now c.args.ins.now c.requires.3)
    c.spots_of-t.ensures.channel-is c.insert_spot-c.ensures c.insert_spot-c.auto.list

filled2 : (c : After-insert_spot-c-2) → Filled c.args.table.now c.insert_spot-c.new.list c.insert_spot-c.result (places1 c.args.p c.args.i)
    → Filled c.args.table.now c.insert_spot-c-2.new.list c.insert_spot-c-2.result (places2 c.args.p c.args.i)
filled2 c f =
    fill-spot c.args.table.now c.requires.0.accepted _ _ _ _ _ _ _ f
    c.spots_of-t.ensures.heard-is c.insert_spot-c-2.ensures c.insert_spot-c-2.auto.list

filled3 : (c : After-insert_spot-c-3) → Filled c.args.table.now c.insert_spot-c-2.new.list c.insert_spot-c-2.result (places2 c.args.p c.args.i)
    → Filled c.args.table.now c.insert_spot-c-3.new.list c.insert_spot-c-3.result (read_of c.args.table.now c.args.p c.args.i c.args.j)
filled3 c f =
    fill-spot c.args.table.now c.requires.0.accepted _ _ _ _ _ _ _ f
    c.spots_of-t.ensures.sent_is c.insert_spot-c-3.ensures c.insert_spot-c-3.auto.list

-- the outputs: what is read, the bound name, and the nodes where both go on
copied : (c : After-copy_from_slice)
    → Filled c.args.table.now c.insert_spot-c-3.new.list c.insert_spot-c-3.result (read_of c.args.table.now c.args.p c.args.i c.args.j)
    → Filled c.args.table.now c.copy_from_slice.new.self c.insert_spot-c-3.result (read_of c.args.table.now c.args.p c.args.i c.args.j)
copied c f =
    subst (λ (outs : List ℕ). Filled c.args.table.now outs c.insert_spot-c-3.result (read_of c.args.table.now c.args.p c.args.i c.args.j))
    (sym c.copy_from_slice.ensures.after) f

gives4 : (c : After-insert_spot-o) → Filled c.args.table.now c.copy_from_slice.new.self c.insert_spot-c-3.result (read_of c.args.table.now c.args.p c.args.i c.args.j)
    → Filled c.args.table.now c.insert_spot-o.new.list c.insert_spot-o.result (places4 c.args.table.now c.args.p c.args.i c.args.j)
gives4 c f =
    fill-spot c.args.table.now c.requires.0.accepted _ _ _ _ _ _ _ f
    c.spots_of-t.ensures.bound-is c.insert_spot-o.ensures c.insert_spot-o.auto.list

gives5 : (c : After-insert-o)
    → Filled c.args.table.now c.insert_spot-o.new.list c.insert_spot-o.result (places4 c.args.table.now c.args.p c.args.i c.args.j)
    → Filled c.args.table.now c.insert-o.new.list c.insert-o.result (places5 c.args.table.now c.args.p c.args.i c.args.j)
gives5 c f =
    let k = c.requires.1 in
    move_at c.args.table.now _ _ _ _ _ f _ _ (send-next c.args.table.now c.requires.0.accepted c.args.p k)
    k.onsend-is c.insert-o.ensures c.insert-o.auto.list

gives6 : (c : After-insert-o-2) → Filled c.args.table.now c.insert-o.new.list c.insert-o.result (places5 c.args.table.now c.args.p c.args.i c.args.j)
    → Filled c.args.table.now c.insert-o-2.new.list c.insert-o-2.result (gives_of c.args.table.now c.args.p c.args.i c.args.j)
gives6 c f =
    let k = c.requires.1 in
    move_at c.args.table.now _ _ _ _ _ f _ _ (receive-next c.args.table.now c.requires.0.accepted c.args.p k)
    k.onreceive-is c.insert-o-2.ensures c.insert-o-2.auto.list

-- the inputs: what is read, the value that the bound name loses, and the nodes where both are
takes7 : (c : After-insert_spot-c-4)
    → Filled c.args.table.now c.insert_spot-c-3.new.list c.insert_spot-c-3.result (read_of c.args.table.now c.args.p c.args.i c.args.j)
    → Filled c.args.table.now c.insert_spot-c-4.new.list c.insert_spot-c-4.result (places7 c.args.table.now c.args.p c.args.i c.args.j)
takes7 c f =
    fill-spot c.args.table.now c.requires.0.accepted _ _ _ _ _ _ _ f
    c.spots_of-t.ensures.free-is c.insert_spot-c-4.ensures c.insert_spot-c-4.auto.list

takes8 : (c : After-insert-c)
    → Filled c.args.table.now c.insert_spot-c-4.new.list c.insert_spot-c-4.result (places7 c.args.table.now c.args.p c.args.i c.args.j)
    → Filled c.args.table.now c.insert-c.new.list c.insert-c.result (places8 c.args.table.now c.args.p c.args.i c.args.j)
takes8 c f =
    let k = c.requires.1 in
    move_at c.args.table.now _ _ _ _ _ f _ _ (home-inside c.args.table.now c.requires.0.accepted c.args.p k c.args.p.send)
    k.sender-is c.insert-c.ensures c.insert-c.auto.list

takes9 : (c : After-insert-c-2) → Filled c.args.table.now c.insert-c.new.list c.insert-c.result (places8 c.args.table.now c.args.p c.args.i c.args.j)
    → Filled c.args.table.now c.insert-c-2.new.list c.insert-c-2.result (takes_of c.args.table.now c.args.p c.args.i c.args.j)
takes9 c f =
    let k = c.requires.1 in
    move_at c.args.table.now _ _ _ _ _ f _ _ (home-inside c.args.table.now c.requires.0.accepted c.args.p k c.args.p.receive)
    k.receiver-is c.insert-c-2.ensures c.insert-c-2.auto.list

-- ---- what the calls ask, and the answer

pub insert_spot-c-requires : goal.insert_spot-c-requires
insert_spot-c-requires c =
    fill-rising c.args.table.now c.requires.0.accepted _ _ [] (fill_none c.args.table.now c.args.ins.now c.requires.3) (omega arith)

pub insert_spot-c-requires-2 : goal.insert_spot-c-requires-2
insert_spot-c-requires-2 c =
    let g = goal.at.insert_spot-c-requires-2 c in
    fill-rising c.args.table.now c.requires.0.accepted _ _ _ (filled1 g.After-insert_spot-c) (omega arith)

pub insert_spot-c-requires-3 : goal.insert_spot-c-requires-3
insert_spot-c-requires-3 c =
    let g = goal.at.insert_spot-c-requires-3 c in
    fill-rising c.args.table.now c.requires.0.accepted _ _ _ (filled2 g.After-insert_spot-c-2 (filled1 g.After-insert_spot-c)) (omega arith)

pub insert_spot-o-requires : goal.insert_spot-o-requires
insert_spot-o-requires c =
    let g = goal.at.insert_spot-o-requires c in
    let f = filled3 g.After-insert_spot-c-3 (filled2 g.After-insert_spot-c-2 (filled1 g.After-insert_spot-c)) in
    fill-rising c.args.table.now c.requires.0.accepted _ _ _ (copied g.After-copy_from_slice f) (omega arith)

pub insert-o-requires : goal.insert-o-requires
insert-o-requires c =
    let g = goal.at.insert-o-requires c in
    let f = filled3 g.After-insert_spot-c-3 (filled2 g.After-insert_spot-c-2 (filled1 g.After-insert_spot-c)) in
    fill-rising c.args.table.now c.requires.0.accepted _ _ _ (gives4 g.After-insert_spot-o (copied g.After-copy_from_slice f)) (omega arith)

pub insert-o-requires-2 : goal.insert-o-requires-2
insert-o-requires-2 c =
    let g = goal.at.insert-o-requires-2 c in
    let f = filled3 g.After-insert_spot-c-3 (filled2 g.After-insert_spot-c-2 (filled1 g.After-insert_spot-c)) in
    fill-rising c.args.table.now c.requires.0.accepted _ _ _ (gives5 g.After-insert-o (gives4 g.After-insert_spot-o (copied g.After-copy_from_slice f))) (omega arith)

pub insert_spot-c-requires-4 : goal.insert_spot-c-requires-4
insert_spot-c-requires-4 c =
    let g = goal.at.insert_spot-c-requires-4 c in
    let f = filled3 g.After-insert_spot-c-3 (filled2 g.After-insert_spot-c-2 (filled1 g.After-insert_spot-c)) in
    fill-rising c.args.table.now c.requires.0.accepted _ _ _ f (omega arith)

pub insert-c-requires : goal.insert-c-requires
insert-c-requires c =
    let g = goal.at.insert-c-requires c in
    let f = filled3 g.After-insert_spot-c-3 (filled2 g.After-insert_spot-c-2 (filled1 g.After-insert_spot-c)) in
    fill-rising c.args.table.now c.requires.0.accepted _ _ _ (takes7 g.After-insert_spot-c-4 f) (omega arith)

pub insert-c-requires-2 : goal.insert-c-requires-2
insert-c-requires-2 c =
    let g = goal.at.insert-c-requires-2 c in
    let f = filled3 g.After-insert_spot-c-3 (filled2 g.After-insert_spot-c-2 (filled1 g.After-insert_spot-c)) in
    fill-rising c.args.table.now c.requires.0.accepted _ _ _ (takes8 g.After-insert-c (takes7 g.After-insert_spot-c-4 f)) (omega arith)

pub returns : goal.returns
returns c =
    let a = c.args in
    let g = goal.at.returns c in
    let f = filled3 g.After-insert_spot-c-3 (filled2 g.After-insert_spot-c-2 (filled1 g.After-insert_spot-c)) in
    let takes = takes9 g.After-insert-c-2 (takes8 g.After-insert-c (takes7 g.After-insert_spot-c-4 f)) in
    let gives = gives6 g.After-insert-o-2 (gives5 g.After-insert-o (gives4 g.After-insert_spot-o (copied g.After-copy_from_slice f))) in
    (tells a.table.now c.requires.0.accepted a.p c.requires.1 a.i a.j _ _ _ _ takes gives, c.spots_of-t.ensures)
