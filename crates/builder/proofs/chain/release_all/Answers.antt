use mathlib.Core.Path.{◌≡◌, refl, sym, ap, subst, ◌∙◌}
use mathlib.Core.List.{List}
use Prim.Native.Nat.{ℕ, ◌+◌, ◌≤◌}
use native.Mathlib.Omega.{arith}
use mathlib.Core.Bool.{true}
use lib.ListN.{length, take}
use lib.Seq.{length-take-le}
use Rattle.lists.specs.Lists.{member}
use Rattle.scheme.specs.Owners.{held}
use Rattle.scheme.specs.Scheme.{scheme}
use Rattle.places.specs.Transitions.{releases}
use Rattle.places.specs.Inner.Plan.{today}
use Rattle.places.proofs.Controls.{few-nodes}
use Rattle.places.proofs.Plans.{known}
use Rattle.places.proofs.NodeCounts.{names-fit, names-taken}
use Rattle.places.proofs.Starts.{right-first, counted-on, on_row}
use Rattle.builder.specs.Inner.Writing.{Inside}
use Rattle.builder.specs.Inner.Parts.{put, state, of_table}
use Rattle.builder.proofs.Writing.{put-none}
use Rattle.builder.proofs.Chains.{chain-few, state-length}
use Rattle.builder.proofs.HeldChains.{held-bounded}
use Rattle.builder.proofs.ChainLoops.{part-inside, part-more, taken-member, releases-start, releases-more, releases-done}
use Rattle.builder.proofs.chain.release_all.Goals.{After-held_names-count}
use Rattle.builder.proofs.chain.release_all.Goals as goal

-- ---- the held names

-- the list has room for them
fit : (c : After-held_names-count) → c.held_names-count.result ≤ length c.held_names-count.new.out
fit c =
    names-fit c.args.table.now c.args.index.now (known _ _ c.requires.0) c.args.c.node c.requires.1.node-inside _ _ _ c.held_names-count.ensures
    (omega arith)

-- what is read of the list is the node's held names
taken : (c : After-held_names-count) → take c.held_names-count.result c.held_names-count.new.out ≡ held c.args.table.now c.args.c.node
taken c =
    names-taken c.args.table.now c.args.index.now (known _ _ c.requires.0) c.args.c.node c.requires.1.node-inside _ _ _
    c.held_names-count.ensures (omega arith)

-- the chain has controls for all of them
few : (c : After-held_names-count) → c.args.k + c.held_names-count.result ≤ c.args.c.controls
few c =
    let n = c.held_names-count.result in
    let e : length (take n c.held_names-count.new.out) ≡ n = length-take-le n c.held_names-count.new.out (fit c) in
    omega (arith, c.requires.2, e, ap (λ (xs : List ℕ). length xs) (taken c))

-- their releases are written within the buffer
inside : (c : After-held_names-count)
    → let a = c.args in
    Inside (put a.table.now a.out.now a.h
    (releases (scheme a.table.now) (today a.table.now) a.c.node a.c.to a.k (take c.held_names-count.result c.held_names-count.new.out)))
inside c =
    let a = c.args in
    let w = a.table.now in
    subst (λ (zs : List ℕ). Inside (put w a.out.now a.h (releases (scheme w) (today w) a.c.node a.c.to a.k zs))) (sym (taken c)) c.requires.3

-- ---- the answers

pub overflow_cast-c : goal.overflow_cast-c
overflow_cast-c c = omega (arith, few-nodes c.args.table.now c.requires.0.accepted, c.requires.1.node-inside)

pub loop-i-init : goal.loop-i-init
loop-i-init c =
    let a = c.args in
    let w = a.table.now in (
      ap (put w a.out.now a.h)
          (releases-start (scheme w) (today w) a.c.node a.c.to a.k (take c.held_names-count.result c.held_names-count.new.out)),
      refl,
      right-first w a.index.now c.requires.0,
    )

pub overflow_add-k : goal.overflow_add-k
overflow_add-k c =
    let f = few (goal.at.overflow_add-k c).After-held_names-count in
    omega (arith, (chain-few c.args.table.now c.requires.0.accepted c.args.c c.requires.1).0, f, c.loop-i-test.true)

pub release_name-q-requires : goal.release_name-q-requires
release_name-q-requires c =
    let h = (goal.at.release_name-q-requires c).After-held_names-count in
    let l = c.loop-i in
    let a = c.args in
    let p = c.requires in
    let w = a.table.now in
    let x = a.index.now in
    let n = c.held_names-count.result in
    let z = c.word-z in
    let s = c.row_on-s in
    let u = c.loop-i-test.true in
    let b = held-bounded w x p.0 a.c.node p.1.node-inside z.result
    (subst (λ (zs : List ℕ). member z.result zs ≡ true) (taken h) (taken-member c.held_names-count.new.out n l.i u (fit h) z.result z.ensures.is)) in
    let e = releases-more (scheme w) (today w) a.c.node a.c.to a.k c.held_names-count.new.out n l.i z.result u (fit h) z.ensures.is in (
      p.0,
      p.1,
      omega (arith, few h, u),
      b.0,
      b.1,
      on_row w x p.0 l.s l.invariant.2 s.result z.result s.ensures b.0 b.1,
      part-inside (of_table w) _ (state l.out l.q) _ _ (l.invariant.0 ∙ ap (put w l.out l.q) e) (inside h),
    )

pub loop-i-preserved : goal.loop-i-preserved
loop-i-preserved c =
    let h = (goal.at.loop-i-preserved c).After-held_names-count in
    let l = c.loop-i in
    let a = c.args in
    let w = a.table.now in
    let z = c.word-z in
    let s = c.row_on-s in
    let u = c.loop-i-test.true in
    let r = c.release_name-q.ensures in
    let e = releases-more (scheme w) (today w) a.c.node a.c.to a.k c.held_names-count.new.out c.held_names-count.result l.i z.result u (fit h)
    z.ensures.is in (
      part-more (of_table w) _ (state l.out l.q) _ _ (l.invariant.0 ∙ ap (put w l.out l.q) e) _ r,
      state-length w l.out _ l.q _ _ r ∙ l.invariant.1,
      counted-on w a.index.now c.requires.0 l.s l.invariant.2 s.result z.result s.ensures,
    )

pub returns : goal.returns
returns c =
    let h = (goal.at.returns c).After-held_names-count in
    let a = c.args in
    let w = a.table.now in
    let l = c.loop-i in
    let e = releases-done (scheme w) (today w) a.c.node a.c.to a.k c.held_names-count.new.out c.held_names-count.result l.i
    (omega (arith, c.loop-i-test.false)) (fit h) in
    sym (l.invariant.0 ∙ ap (put w l.out l.q) e ∙ put-none (of_table w) (state l.out l.q))
    ∙ ap (λ (zs : List ℕ). put w a.out.now a.h (releases (scheme w) (today w) a.c.node a.c.to a.k zs)) (taken h)
