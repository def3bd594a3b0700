use mathlib.Core.Path.{◌≡◌, sym, ◌∙◌}
use mathlib.Core.List.{List, [], ◌∷◌}
use Prim.Native.Nat.{◌+◌}
use native.Mathlib.Omega.{arith}
use lib.ListN.{length, take}
use Rattle.scheme.specs.Scheme.{scheme}
use Rattle.places.specs.Places.{Place, equals, differs, control}
use Rattle.places.specs.Transitions.{copying}
use Rattle.places.specs.Inner.Plan.{today}
use Rattle.builder.specs.declared.chain.Chain.{Chain}
use Rattle.builder.specs.declared.chain.Copied.{Copied}
use Rattle.builder.specs.declared.chain.Passed.{Passed}
use Rattle.builder.specs.Inner.Parts.{Filled, of_table, arrow}
use Rattle.places.proofs.Controls.{few-nodes, few-publics, few-bounds}
use Rattle.builder.proofs.Chains.{chain-few, has-difference, next_place, own-place, own-number, put-from, inside-as}
use Rattle.builder.proofs.Filling.{fill_none, fill-with, fill-without, fill-few, fill-rising}
use Rattle.builder.proofs.Copying.{holds-differs, no_difference, copy-arrow}
use Rattle.builder.proofs.chain.copy.Goals.{After-insert_equals-i, After-insert_equals-o, After-insert-o, Joined-publics-v, After-insert-i-2}
use Rattle.builder.proofs.chain.copy.Goals.{then-publics-v, else-publics-v}
use Rattle.builder.proofs.chain.copy.Goals as goal

-- ---- the places that are put in

-- the argument's equals place, which goes into both lists
abbrev read : Passed → Copied → List Place
read x v = equals x.argument v.value ∷ []

-- so, with the formal's equals place: the outputs but for the place on the chain
abbrev given : Passed → Copied → List Place
given x v = equals x.formal v.value ∷ read x v

-- so, with the formal's differs place: the inputs but for the control
abbrev taken : Passed → Copied → List Place
taken x v = differs x.formal v.value ∷ read x v

-- the inputs with the control
abbrev all_taken : Chain → Passed → Copied → List Place
all_taken c x v = control c.node x.k ∷ taken x v

-- ---- what the lists hold after each call

-- the inputs after the first place: the outputs begin with the same
first : (c : After-insert_equals-i) → Filled c.args.table.now c.insert_equals-i.new.list c.insert_equals-i.result (read c.args.x c.args.v)
first c = c.insert_equals-i.ensures [] (fill_none c.args.table.now _)

-- the outputs after the second place
most : (c : After-insert_equals-o)
    → Filled c.args.table.now c.insert_equals-i.new.list c.insert_equals-i.result (read c.args.x c.args.v)
    → Filled c.args.table.now c.insert_equals-o.new.list c.insert_equals-o.result (given c.args.x c.args.v)
most c f = c.insert_equals-o.ensures (read c.args.x c.args.v) f

-- the outputs, once the place on the chain is in
outputs : (c : After-insert-o)
    → Filled c.args.table.now c.insert_equals-o.new.list c.insert_equals-o.result (given c.args.x c.args.v)
    → Filled c.args.table.now c.insert-o.new.list c.insert-o.result
    ((next_place c.args.table.now c.args.c c.requires.1 c.args.x.k c.requires.2).place ∷ given c.args.x c.args.v)
outputs c m =
    let n = next_place c.args.table.now c.args.c c.requires.1 c.args.x.k c.requires.2 in
    fill-with c.args.table.now c.insert_equals-o.new.list c.insert-o.new.list c.insert_equals-o.result c.insert-o.result c.on.result n.place
    (given c.args.x c.args.v) n.there (c.on.ensures ∙ sym n.number) c.insert-o.ensures m

-- the inputs where the ways of the test meet: the differs place is in, or the net has no such place
met : (c : Joined-publics-v)
    → Filled c.args.table.now c.insert_equals-i.new.list c.insert_equals-i.result (read c.args.x c.args.v)
    → Filled c.args.table.now c.if-publics-v.ins c.if-publics-v.i (taken c.args.x c.args.v) × (length c.if-publics-v.ins ≡ 4)
met c f =
    let a = c.args in
    let p = c.requires in
    let w = a.table.now in
    let l = c.insert_equals-i.new.list in
    let k = c.insert_equals-i.auto.list in
    elim c.if-publics-v.branch [
      | then-publics-v x ↦ rw (x.ins-is, x.i-is) (
        fill-with w l _ c.insert_equals-i.result _ x.differs.result (differs a.x.formal a.v.value) (read a.x a.v)
            (has-difference w a.x.formal a.v.value
            (holds-differs w p.0.accepted a.x.formal a.v.value p.5 p.7 (omega (arith, c.word-publics.ensures.is, x.if-publics-v.true))))
            x.differs.ensures x.insert-i.ensures f,
        x.insert-i.auto.list ∙ k,
      )
      | else-publics-v x ↦ rw (x.ins-is, x.i-is) (
        fill-without w l c.insert_equals-i.result (differs a.x.formal a.v.value) (read a.x a.v)
            (no_difference w a.x.formal a.v.value (omega (arith, c.word-publics.ensures.is, x.if-publics-v.false))) f,
        k,
      )
    ]

-- the inputs, once the control is in
inputs : (c : After-insert-i-2)
    → Filled c.args.table.now c.if-publics-v.ins c.if-publics-v.i (taken c.args.x c.args.v)
    → Filled c.args.table.now c.insert-i-2.new.list c.insert-i-2.result (all_taken c.args.c c.args.x c.args.v)
inputs c m =
    let a = c.args in
    let p = c.requires in
    let j = c.if-publics-v in
    fill-with a.table.now j.ins c.insert-i-2.new.list j.i c.insert-i-2.result (a.c.first + a.x.k) (control a.c.node a.x.k) (taken a.x a.v)
    (own-place a.table.now a.c p.1 a.x.k p.2) (sym (own-number a.table.now a.c p.1 a.x.k p.2)) c.insert-i-2.ensures m

-- the transition that is written is the copy
arrow-is : (c : After-insert-i-2)
    → Filled c.args.table.now c.insert-i-2.new.list c.insert-i-2.result (all_taken c.args.c c.args.x c.args.v)
    → Filled c.args.table.now c.insert-o.new.list c.insert-o.result
    ((next_place c.args.table.now c.args.c c.requires.1 c.args.x.k c.requires.2).place ∷ given c.args.x c.args.v)
    → let a = c.args in
    of_table a.table.now (copying (scheme a.table.now) (today a.table.now) a.c.node a.c.to a.x.k a.x.formal a.x.argument a.v.value)
    ≡ arrow 0 a.c.node a.x.formal (take c.insert-i-2.result c.insert-i-2.new.list) (take c.insert-o.result c.insert-o.new.list)
arrow-is c i o =
    let a = c.args in
    copy-arrow a.table.now a.c c.requires.1 a.x.k c.requires.2 a.x.formal a.x.argument a.v.value c.requires.5 _ _ _ _ i o

-- ---- the answers

pub insert_equals-i-requires : goal.insert_equals-i-requires
insert_equals-i-requires c =
    (c.requires.0, c.requires.6, fill-rising c.args.table.now c.requires.0.accepted _ 0 [] (omega arith) (fill_none c.args.table.now _), c.requires.9)

pub insert_equals-o-requires : goal.insert_equals-o-requires
insert_equals-o-requires c =
    let h = c.requires.7 in (
      c.requires.0,
      record { high = h.high; value = h.value },
      fill-rising c.args.table.now c.requires.0.accepted _ _ (read c.args.x c.args.v) (omega (arith, c.insert_equals-i.auto.list))
          (first (goal.at.insert_equals-o-requires c).After-insert_equals-i),
      c.requires.10,
    )

pub on-requires : goal.on-requires
on-requires c =
    let f = chain-few c.args.table.now c.requires.0.accepted c.args.c c.requires.1 in
    (c.requires.2, omega (arith, f.0), omega (arith, f.1))

pub insert-o-requires : goal.insert-o-requires
insert-o-requires c =
    let at = goal.at.insert-o-requires c in
    fill-rising c.args.table.now c.requires.0.accepted _ _ (given c.args.x c.args.v)
    (omega (arith, c.insert_equals-o.auto.list, c.insert_equals-i.auto.list)) (most at.After-insert_equals-o (first at.After-insert_equals-i))

pub differs-requires : goal.differs-requires
differs-requires c =
    let p = c.requires in (
      p.0,
      holds-differs c.args.table.now p.0.accepted c.args.x.formal c.args.v.value p.5 p.7
          (omega (arith, c.word-publics.ensures.is, c.if-publics-v.true)),
      p.10 p.7.low p.7.high,
    )

pub insert-i-requires : goal.insert-i-requires
insert-i-requires c =
    fill-rising c.args.table.now c.requires.0.accepted _ _ (read c.args.x c.args.v) (omega (arith, c.insert_equals-i.auto.list))
    (first (goal.at.insert-i-requires c).After-insert_equals-i)

pub overflow_add-c : goal.overflow_add-c
overflow_add-c c =
    omega (arith, (chain-few c.args.table.now c.requires.0.accepted c.args.c c.requires.1).0, c.requires.2)

pub overflow_cast-c : goal.overflow_cast-c
overflow_cast-c c =
    omega (arith, (chain-few c.args.table.now c.requires.0.accepted c.args.c c.requires.1).0, c.requires.2)

pub insert-i-requires-2 : goal.insert-i-requires-2
insert-i-requires-2 c =
    let at = goal.at.insert-i-requires-2 c in
    let m = met at.Joined-publics-v (first at.After-insert_equals-i) in
    fill-rising c.args.table.now c.requires.0.accepted c.if-publics-v.ins c.if-publics-v.i (taken c.args.x c.args.v) (omega (arith, m.1)) m.0

pub transition-requires : goal.transition-requires
transition-requires c =
    let at = goal.at.transition-requires c in
    let f = first at.After-insert_equals-i in
    let m = met at.Joined-publics-v f in
    let i = inputs at.After-insert-i-2 m.0 in
    let o = outputs at.After-insert-o (most at.After-insert_equals-o f) in
    let a = c.args in
    let p = c.requires in
    let w = a.table.now in (
      omega (arith, few-nodes w p.0.accepted, p.1.node-inside),
      omega (arith, p.4, few-publics w p.0.accepted, few-bounds w p.0.accepted),
      omega (arith, c.insert-i-2.auto.list, m.1, fill-few w _ _ _ i),
      omega (arith, c.insert-o.auto.list, c.insert_equals-o.auto.list, c.insert_equals-i.auto.list, fill-few w _ _ _ o),
      inside-as w a.out.now a.h _ _ (arrow-is at.After-insert-i-2 i o) p.8,
    )

pub returns : goal.returns
returns c =
    let at = goal.at.returns c in
    let f = first at.After-insert_equals-i in
    let i = inputs at.After-insert-i-2 (met at.Joined-publics-v f).0 in
    let o = outputs at.After-insert-o (most at.After-insert_equals-o f) in
    put-from c.args.table.now c.args.out.now c.args.h _ _ (arrow-is at.After-insert-i-2 i o) _ c.transition.ensures
