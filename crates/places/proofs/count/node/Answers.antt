-- `places::count::node` meets its contract. Where a Stop and a Call meet, what their releases add to is told.
use Rattle.std.proofs.Common.{◌≡◌, ℕ, ◌+◌, ◌-◌, ◌≤◌, List, length, sym, ◌∙◌, length-take-le, subst, arith}
use Rattle.lists.specs.Lists.{from}
use Rattle.table.specs.Causes.{cause}
use Rattle.scheme.specs.Words.{node_kind, arguments_of}
use Rattle.scheme.specs.Owners.{held}
use Rattle.places.specs.Answers.{sums_of}
use Rattle.places.specs.Inner.Counting.{Few, add_times, over, release_sums, copy_sums, silent_sums, node_sums}
use Rattle.places.specs.Inner.Plan.{read_names_word}
use Rattle.places.proofs.Controls.{few-nodes, few-bounds}
use Rattle.places.proofs.Tokens.{read-few}
use Rattle.places.proofs.Plans.{known, privates-are}
use Rattle.places.proofs.NodeCounts.{names-fit, names-asks, names-gives, stopped, chosen, made, other-kind, call-sums, copied-few, called-few}
use Rattle.places.proofs.NodeCounts.{arguments-are}
use Rattle.places.proofs.count.node.Goals.{Then-kind-eq1, After-privates, Joined-kind-ne0, Else-kind-eq2, then-kind-ne0, else-kind-ne0}
use Rattle.places.proofs.count.node.Goals as goal

few : (w : List ℕ) → cause w ≡ 0 → (read : ℕ) → read ≡ read_names_word w → read + 2 ≤ 34
few w h read e = omega (arith, e, read-few w h, few-bounds w h)

-- ---- what each kind of node adds

choice-sums : (c : Then-kind-eq1)
    → node_sums c.args.table.now (sums_of c.args.t) c.args.n
    ≡ over (silent_sums c.args.table.now) (sums_of c.args.t)
    (from c.field3-first.result (c.field3-first.result + c.field3-second.result - c.field3-first.result))
choice-sums c =
    chosen c.args.table.now c.requires.0.accepted c.args.n c.requires.2 (sums_of c.args.t) _ c.field3-kind.ensures.is c.field3-first.result
    c.field3-second.result c.field3-first.ensures.is c.field3-second.ensures.is c.if-kind-eq1.true

new-sums : (c : After-privates)
    → node_sums c.args.table.now (sums_of c.args.t) c.args.n
    ≡ add_times (sums_of c.args.t) c.privates.result (c.args.read + 2) (c.args.read + 2)
new-sums c =
    made c.args.table.now c.requires.0.accepted c.args.n c.requires.2 (sums_of c.args.t) _ c.field3-kind.ensures.is c.privates.result c.args.read
    (c.privates.ensures.is ∙ privates-are c.args.table.now c.args.index.now c.requires.0) c.requires.1 c.if-kind-eq2.true

-- a Stop or a Call
other : (c : Else-kind-eq2) (i : ℕ) → (c.field3-kind.result ≡ i → ⊥) → node_kind c.args.table.now c.args.n ≡ i → ⊥
other c = other-kind c.args.table.now c.requires.0.accepted c.args.n c.requires.2 (sums_of c.args.t) _ c.field3-kind.ensures.is

no-choice : (c : Else-kind-eq2) → node_kind c.args.table.now c.args.n ≡ 1 → ⊥
no-choice c = other c 1 c.if-kind-eq1.false

no-new : (c : Else-kind-eq2) → node_kind c.args.table.now c.args.n ≡ 2 → ⊥
no-new c = other c 2 c.if-kind-eq2.false

-- where a Stop and a Call meet
met : (c : Joined-kind-ne0)
    → (o : (i : ℕ) → (c.field3-kind.result ≡ i → ⊥) → node_kind c.args.table.now c.args.n ≡ i → ⊥)
    → node_sums c.args.table.now (sums_of c.args.t) c.args.n
    ≡ over (release_sums c.args.table.now) (sums_of c.if-kind-ne0.r) (held c.args.table.now c.args.n)
met c o =
    let w = c.args.table.now in
    let h = c.requires.0.accepted in
    let n = c.args.n in
    let s = sums_of c.args.t in
    elim c.if-kind-ne0.branch [
      | then-kind-ne0 x ↦
          let as' =
          arguments-are w n c.field3-first.result c.field3-second.result x.field4.result c.field3-first.ensures.is c.field3-second.ensures.is
          x.field4.ensures.is in
          let copied : sums_of c.if-kind-ne0.r ≡ over (copy_sums w) (add_times s 1 1 1) (arguments_of w n) =
          rw x.r-is (x.copies-r.ensures ∙ rw (as', x.more-then-kind-ne0.ensures)) in
          rw copied (call-sums w h n c.requires.2 s (o 0 x.if-kind-ne0.true) (o 1 c.if-kind-eq1.false) (o 2 c.if-kind-eq2.false))
      | else-kind-ne0 x ↦ rw x.r-is (stopped w h n c.requires.2 s _ c.field3-kind.ensures.is x.if-kind-ne0.false)
    ]

-- ---- the answers

pub silents-requires : goal.silents-requires
silents-requires c =
    (omega (arith, c.field3-first.ensures.small, c.field3-second.ensures.small), subst Few (choice-sums (goal.at.silents-requires c).Then-kind-eq1) c.requires.3)

pub returns-then-kind-eq1 : goal.returns-then-kind-eq1
returns-then-kind-eq1 c = c.silents.ensures ∙ sym (choice-sums (goal.at.returns-then-kind-eq1 c).Then-kind-eq1)

pub overflow_add-read : goal.overflow_add-read
overflow_add-read c = omega (arith, few c.args.table.now c.requires.0.accepted c.args.read c.requires.1)

pub overflow_add-read-then-kind-eq2 : goal.overflow_add-read-then-kind-eq2
overflow_add-read-then-kind-eq2 c = omega (arith, few c.args.table.now c.requires.0.accepted c.args.read c.requires.1)

pub more-requires : goal.more-requires
more-requires c = subst Few (new-sums (goal.at.more-requires c).After-privates) c.requires.3

pub returns-then-kind-eq2 : goal.returns-then-kind-eq2
returns-then-kind-eq2 c = c.more.ensures ∙ sym (new-sums (goal.at.returns-then-kind-eq2 c).After-privates)

pub overflow_cast-n : goal.overflow_cast-n
overflow_cast-n c = omega (arith, c.requires.2, few-nodes c.args.table.now c.requires.0.accepted)

pub more-requires-then-kind-ne0 : goal.more-requires-then-kind-ne0
more-requires-then-kind-ne0 c =
    let e = (goal.at.more-requires-then-kind-ne0 c).Else-kind-eq2 in
    called-few c.args.table.now c.requires.0.accepted c.args.n c.requires.2 (sums_of c.args.t) (other e 0 c.if-kind-ne0.true) (no-choice e) (no-new e)
    c.requires.3

pub copies-r-requires : goal.copies-r-requires
copies-r-requires c =
    let w = c.args.table.now in
    let e = (goal.at.copies-r-requires c).Else-kind-eq2 in
    let as' =
    arguments-are w c.args.n c.field3-first.result c.field3-second.result c.field4.result c.field3-first.ensures.is c.field3-second.ensures.is
    c.field4.ensures.is in (
      c.requires.0,
      rw (as', c.more-then-kind-ne0.ensures)
          (copied-few w c.requires.0.accepted c.args.n c.requires.2 (sums_of c.args.t) (other e 0 c.if-kind-ne0.true) (no-choice e) (no-new e) c.requires.3),
    )

-- the names have room in their buffer
fit : (c : Joined-kind-ne0) → c.held_names-held.result ≤ length c.held_names-held.new.out
fit c =
    names-fit c.args.table.now c.args.index.now (known c.args.table.now c.args.index.now c.requires.0) c.args.n c.requires.2 _ c.held_names-held.result
    c.held_names-held.new.out c.held_names-held.ensures (omega arith)

pub slice_bounds-names-end : goal.slice_bounds-names-end
slice_bounds-names-end c = fit (goal.at.slice_bounds-names-end c).Joined-kind-ne0

pub slice_bounds-releases-end : goal.slice_bounds-releases-end
slice_bounds-releases-end c =
    sym (length-take-le c.held_names-held.result c.held_names-held.new.out (fit (goal.at.slice_bounds-releases-end c).Joined-kind-ne0))

pub releases-requires : goal.releases-requires
releases-requires c =
    let w = c.args.table.now in
    let a = goal.at.releases-requires c in
    let q = c.held_names-held in
    let p =
    names-asks w c.args.index.now (known w c.args.index.now c.requires.0) c.args.n c.requires.2 _ q.result q.new.out q.ensures (omega arith)
    (sums_of c.if-kind-ne0.r) (subst Few (met a.Joined-kind-ne0 (other a.Else-kind-eq2)) c.requires.3) in
    (c.requires.0, p.1)

pub returns : goal.returns
returns c =
    let w = c.args.table.now in
    let a = goal.at.returns c in
    let q = c.held_names-held in
    names-gives w c.args.index.now (known w c.args.index.now c.requires.0) c.args.n c.requires.2 _ q.result q.new.out q.ensures (omega arith)
    (sums_of c.if-kind-ne0.r) (sums_of c.releases.result) c.releases.ensures
    ∙ sym (met a.Joined-kind-ne0 (other a.Else-kind-eq2))
