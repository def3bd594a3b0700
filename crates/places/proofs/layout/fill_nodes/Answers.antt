use Rattle.std.proofs.Common.{◌≡◌, ◌+◌, ◌-◌, ◌≤◌, sym, refl, ◌∙◌, arith}
use Rattle.lists.specs.Lists.{from}
use Rattle.lists.proofs.Stores.{store-more}
use Rattle.places.specs.Plan.{node_word, node_words}
use Rattle.places.proofs.Controls.{few-nodes}
use Rattle.places.proofs.Plans.{node-inside, node-past, node-small, rest-same}
use Rattle.places.proofs.layout.fill_nodes.Goals.{At-loop-n}
use Rattle.places.proofs.layout.fill_nodes.Goals as goal

-- there are words for all nodes
nodes-few : (c : At-loop-n) → c.word-count.result ≤ 256
nodes-few c =
    omega (arith, c.word-count.ensures.is, few-nodes c.args.table.now c.requires.0)

pub loop-n-init : goal.loop-n-init
unfolding from
loop-n-init c =
    (c.requires.2 ∙ sym (node-inside c.args.table.now 0 (omega arith)), refl)

pub overflow_cast-at : goal.overflow_cast-at
overflow_cast-at c =
    let l = c.loop-n in omega (arith, l.invariant.0, node-small c.args.table.now c.requires.0 l.n)

pub overflow_add-at : goal.overflow_add-at
overflow_add-at c =
    let l = c.loop-n in
    omega (arith, l.invariant.0, c.control_count-at.ensures.0, node-small c.args.table.now c.requires.0 (l.n + 1))

pub loop-n-preserved : goal.loop-n-preserved
loop-n-preserved c =
    let w = c.args.table.now in
    let l = c.loop-n in
    let u = c.store.ensures in (
      omega (arith, l.invariant.0, c.control_count-at.ensures.0),
      u ∙ store-more (node_word w) c.args.index.now 960 l.n l.index l.invariant.1 l.at l.invariant.0,
    )

pub slice_bounds-fill-start : goal.slice_bounds-fill-start
slice_bounds-fill-start c =
    let nodes-few : c.word-count.result ≤ 256 = omega (arith, c.word-count.ensures.is, few-nodes c.args.table.now c.requires.0) in
    omega (arith, nodes-few)

pub slice_bounds-fill-count : goal.slice_bounds-fill-count
slice_bounds-fill-count c = omega (arith, (nodes-few (goal.at.slice_bounds-fill-count c).At-loop-n))

pub overflow_cast-at-2 : goal.overflow_cast-at-2
overflow_cast-at-2 c =
    let l = c.loop-n in omega (arith, l.invariant.0, node-small c.args.table.now c.requires.0 l.n)

pub returns : goal.returns
unfolding node_words
returns c =
    let w = c.args.table.now in
    let l = c.loop-n in
    let n = c.word-count.result in
    let i = c.word-count.ensures.is in
    let few = (nodes-few (goal.at.returns c).At-loop-n) in
    let e : l.n ≡ n = omega (arith, c.loop-n-test.false) in
    let q : n + (1217 - (960 + n)) ≡ 257 = omega (arith, few) in
    let o = l.invariant.0 ∙ node-past w l.n (omega (arith, i, e)) in (
      o,
      rest-same (node_word w) c.args.index.now 960 n (1217 - (960 + n)) l.at (λ y u. node-past w y (omega (arith, i)) ∙ sym o)
          (omega (arith, few, c.requires.3)) l.index _ (rw (← e) l.invariant.1) (c.fill.ensures.after (λ y e. e)) ∙ rw q,
    )
