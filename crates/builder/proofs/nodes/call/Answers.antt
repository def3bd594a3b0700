use mathlib.Core.Path.{◌≡◌, refl, sym, ap, subst, ◌∙◌}
use mathlib.Core.List.{[], ◌∷◌, ◌++◌, map}
use Prim.Native.Nat.{ℕ, ◌+◌, ◌-◌, ◌≤◌, ◌<◌}
use native.Mathlib.Omega.{arith}
use lib.ListN.{length}
use Rattle.lists.specs.Lists.{from}
use Rattle.scheme.specs.Words.{first_formal, node_first, node_second}
use Rattle.scheme.specs.Owners.{held}
use Rattle.scheme.specs.Scheme
use Rattle.scheme.specs.Scheme.{scheme}
use Rattle.places.specs.Transitions.{releases, copies, calling, from_node_descriptions}
use Rattle.builder.specs.Inner.Writing.{Inside}
use Rattle.places.specs.Inner.Plan.{today, argument_name}
use Rattle.builder.specs.Inner.Parts.{put, state, of_table, arrow, Chained}
use Rattle.builder.specs.declared.chain.Chain.{Chain}
use Rattle.places.proofs.Controls.{few-nodes}
use Rattle.builder.proofs.Chains.{chain-few, put_as, inside-as}
use Rattle.builder.proofs.ChainLoops.{part-inside, part-more}
use Rattle.builder.proofs.NodeArrows.{calling-arrow}
use Rattle.builder.proofs.HeldChains.{starts-rise, Called, call-frees, call-named, call-takes, call-list, call-room, call-chained}
use Rattle.builder.proofs.nodes.call.Goals.{After-node_start-2, After-on, After-field3}
use Rattle.builder.proofs.nodes.call.Goals as goal

-- the words of the Call, before its formals and arguments are read
called : (c : After-node_start-2)
    → Called c.args.table.now c.args.n c.field3-d.result c.field4-to.result (first_formal c.args.table.now c.field3-d.result)
    (node_second c.args.table.now c.args.n) c.field4-formals.result
called c = record {
  definition-is = c.field3-d.ensures.is;
  root_is = c.field4-to.ensures.is;
  formal-is = refl;
  argument_is = refl;
  count-is = c.field4-formals.ensures.is;
}

-- a chain, by where the places of its node, of the next node and of its root start
abbrev way : (node to first next last : ℕ) → Chain
way node to first next last = record { node = node; to = to; first = first; controls = next - first; last = last }

-- the chain of the Call
chain : (c : After-node_start-2)
    → Chained c.args.table.now (way c.args.n c.field4-to.result c.node_start-first.result c.node_start.result c.node_start-2.result)
chain c =
    let a = c.args in
    let p = c.requires in
    call-chained a.table.now a.index.now p.0 a.n p.1 p.2 _ _ _ _ _ (called c) _ _ c.node_start-first.ensures.is
    c.node_start.ensures.is _ c.node_start-2.ensures.is

-- it has a place for the Call, for each formal and for each name held
room : (c : After-node_start-2)
    → 1 + c.field4-formals.result + length (held c.args.table.now c.args.n) ≤ c.node_start.result - c.node_start-first.result
room c =
    let a = c.args in
    let p = c.requires in
    call-room a.table.now a.index.now p.0 a.n p.1 p.2 _ _ _ _ _ (called c) _ _ c.node_start-first.ensures.is c.node_start.ensures.is

-- the first transition
arrow-is : (c : After-on)
    → Chained c.args.table.now (way c.args.n c.field4-to.result c.node_start-first.result c.node_start.result c.node_start-2.result)
    → 0 < c.node_start.result - c.node_start-first.result
    → of_table c.args.table.now (calling (scheme c.args.table.now) (today c.args.table.now) c.args.n c.field4-to.result)
    ≡ arrow 5 c.args.n 0 (c.node_start-first.result ∷ []) (c.on.result ∷ [])
arrow-is c h i = calling-arrow c.args.table.now _ h i c.on.result c.on.ensures

-- the words of the Call, with its formals and arguments
called-all : (c : After-field3)
    → Called c.args.table.now c.args.n c.field3-d.result c.field4-to.result c.field4.result c.field3.result c.field4-formals.result
called-all c = record {
  definition-is = c.field3-d.ensures.is;
  root_is = c.field4-to.ensures.is;
  formal-is = c.field4.ensures.is;
  argument_is = c.field3.ensures.is;
  count-is = c.field4-formals.ensures.is;
}

-- what is left behind the first transition
after-go : (c : After-field3)
    → of_table c.args.table.now (calling (scheme c.args.table.now) (today c.args.table.now) c.args.n c.field4-to.result)
    ≡ arrow 5 c.args.n 0 (c.node_start-first.result ∷ []) (c.on.result ∷ [])
    → let a = c.args in
    let w = a.table.now in
    put w a.out.now a.h (from_node_descriptions (scheme w) (today w) a.n (Scheme.call (node_first w a.n)))
    ≡ put w c.go-q.new.out c.go-q.result
    (copies (scheme w) (today w) a.n c.field4-to.result 1 (from c.field4.result c.field4-formals.result)
    (map (argument_name w) (from c.field3.result c.field4-formals.result)) ++
    releases (scheme w) (today w) a.n c.field4-to.result (1 + c.field4-formals.result) (held w a.n))
after-go c is =
    let a = c.args in
    let p = c.requires in
    let w = a.table.now in
    part-more (of_table w) _ (state a.out.now a.h) _ _
    (ap (put w a.out.now a.h) (call-list w p.0.accepted a.n p.1 p.2 _ _ _ _ _ (called-all c) _ refl)) _
    (c.go-q.ensures ∙ sym (put_as w a.out.now a.h _ _ is))

pub overflow_sub-c : goal.overflow_sub-c
overflow_sub-c c =
    let a = c.args in
    let p = c.requires in
    starts-rise a.table.now a.index.now p.0 a.n p.1 _ _ c.node_start-first.ensures.is c.node_start.ensures.is

pub on-requires : goal.on-requires
on-requires c =
    let d = (goal.at.on-requires c).After-node_start-2 in
    let f = chain-few c.args.table.now c.requires.0.accepted _ (chain d) in
    (omega (arith, room d), omega (arith, f.0), omega (arith, f.1))

pub go-q-requires : goal.go-q-requires
go-q-requires c =
    let x = goal.at.go-q-requires c in
    let d = x.After-node_start-2 in
    let a = c.args in
    let p = c.requires in
    let w = a.table.now in
    let i = part-inside (of_table w) _ (state a.out.now a.h) _ _
    (ap (put w a.out.now a.h) (call-list w p.0.accepted a.n p.1 p.2 _ _ _ _ _ (called d) _ refl)) p.3 in
    (omega (arith, few-nodes w p.0.accepted, p.1), inside-as w a.out.now a.h _ _ (arrow-is x.After-on (chain d) (omega (arith, room d))) i)

pub copy_all-q-requires : goal.copy_all-q-requires
copy_all-q-requires c =
    let x = goal.at.copy_all-q-requires c in
    let d = x.After-node_start-2 in
    let p = c.requires in
    let w = c.args.table.now in
    let n = c.args.n in
    let e = called-all x.After-field3 in (
      p.0,
      chain d,
      omega (arith, room d),
      c.field3.ensures.small,
      call-frees w p.0.accepted n p.1 p.2 _ _ _ _ _ e,
      call-named w p.0.accepted n p.1 p.2 _ _ _ _ _ e,
      call-takes w p.0.accepted n p.1 p.2 _ _ _ _ _ e,
      part-inside (of_table w) _ (state c.go-q.new.out c.go-q.result) _ _
          (after-go x.After-field3 (arrow-is x.After-on (chain d) (omega (arith, room d)))) p.3,
    )

pub release_all-requires : goal.release_all-requires
release_all-requires c =
    let x = goal.at.release_all-requires c in
    let d = x.After-node_start-2 in
    let p = c.requires in
    let w = c.args.table.now in (
      p.0,
      chain d,
      room d,
      subst Inside (part-more (of_table w) _ (state c.go-q.new.out c.go-q.result) _ _
          (after-go x.After-field3 (arrow-is x.After-on (chain d) (omega (arith, room d)))) _ c.copy_all-q.ensures) p.3,
    )

pub returns : goal.returns
returns c =
    let x = goal.at.returns c in
    let d = x.After-node_start-2 in
    c.release_all.ensures
    ∙ sym (part-more (of_table c.args.table.now) _ (state c.go-q.new.out c.go-q.result) _ _
    (after-go x.After-field3 (arrow-is x.After-on (chain d) (omega (arith, room d)))) _ c.copy_all-q.ensures)
