use mathlib.Core.Path.{◌≡◌, refl, sym, ap, ◌∙◌}
use mathlib.Core.List.{List, [], map}
use Prim.Native.Nat.{ℕ, ◌+◌, ◌<◌}
use native.Mathlib.Omega.{arith}
use Rattle.lists.specs.Lists
use Rattle.lists.specs.Lists.{word}
use Rattle.lists.proofs.Ranges.{from-length, from-get_or}
use Rattle.scheme.specs.Words.{publics, node_first, node_second}
use Rattle.places.specs.Inner.Plan.{privates_word}
use Rattle.builder.specs.Inner.Parts.{put, state, of_table, made}
use Rattle.builder.proofs.Chains.{state-length}
use Rattle.builder.proofs.ValueLoops.{map-done, map-inside, map_more}
use Rattle.builder.proofs.Making.{made_inside}
use Rattle.builder.proofs.Writing.{put-none}
use Rattle.places.specs.Plan.{nodes_in}
use Rattle.places.specs.Starts.{start_in}
use Rattle.places.proofs.Plans.{node-is}
use Rattle.places.proofs.Starts.{row_is}
use Rattle.builder.proofs.Counted.{Counted, counted}
use Rattle.builder.proofs.nodes.news.Goals as goal

no-values : (a : ℕ) → Lists.from a 0 ≡ []
unfolding Lists.from
no-values a = refl

pub returns-then-privates-eq0 : goal.returns-then-privates-eq0
returns-then-privates-eq0 c =
    let told : Counted c.args.table.now c.word-publics.result
    c.privates-privates.result =
    counted c.args.table.now c.args.index.now _ _ c.requires.0 c.word-publics.ensures.is c.privates-privates.ensures.is in
    let a = c.args in
    let w = a.table.now in
    let z : privates_word w ≡ 0 = omega (arith, told.privates-are, c.if-privates-eq0.true) in
    sym (ap (λ (k : ℕ). put w a.out.now a.h (map (made w a.n) (Lists.from (publics w) k))) z
    ∙ ap (λ (l : List ℕ). put w a.out.now a.h (map (made w a.n) l)) (no-values (publics w)) ∙ put-none (of_table w) (state a.out.now a.h))

pub make-q-requires : goal.make-q-requires
make-q-requires c =
    let told : Counted c.args.table.now c.word-publics.result
    c.privates-privates.result =
    counted c.args.table.now c.args.index.now _ _ c.requires.0 c.word-publics.ensures.is c.privates-privates.ensures.is in
    let a = c.args in
    let p = c.requires in
    let r = told in
    let w = a.table.now in
    let x = a.index.now in
    let l = c.loop-k in
    let vs = Lists.from (publics w) (privates_word w) in
    let u : l.k < privates_word w = omega (arith, c.loop-k-test.true, r.privates-are) in
    let e : c.word-publics.result + l.k ≡ word vs l.k = ap (λ (y : ℕ). y + l.k) r.publics-are ∙ sym (from-get_or (publics w) (privates_word w) l.k u) in (
      p.0,
      p.1,
      p.2,
      c.node_start.ensures.is ∙ node-is w x p.0 a.n (omega (arith, p.1)),
      c.node_start-2.ensures.is ∙ ap (word (nodes_in x)) c.field3.ensures.is
          ∙ node-is w x p.0 (node_second w a.n) (omega (arith, made_inside w r.accepted a.n p.1 p.2)),
      omega (arith, r.publics-are),
      omega (arith, r.publics-are, u),
      map-inside (of_table w) _ (state l.out l.q) vs l.k (made w a.n) l.invariant.0 (c.word-publics.result + l.k)
          (omega (arith, from-length (publics w) (privates_word w), u)) e p.3,
      p.4.filled (omega (arith, u)),
      p.4.room,
      λ lo hi. c.row_start.ensures ∙ ap (start_in w x) c.field3-2.ensures.is ∙ row_is w x p.0 (node_first w a.n) lo hi,
    )

pub loop-k-preserved : goal.loop-k-preserved
loop-k-preserved c =
    let told : Counted c.args.table.now c.word-publics.result
    c.privates-privates.result =
    counted c.args.table.now c.args.index.now _ _ c.requires.0 c.word-publics.ensures.is c.privates-privates.ensures.is in
    let a = c.args in
    let r = told in
    let w = a.table.now in
    let l = c.loop-k in
    let vs = Lists.from (publics w) (privates_word w) in
    let u : l.k < privates_word w = omega (arith, c.loop-k-test.true, r.privates-are) in
    let v = c.word-publics.result + l.k in
    let e : v ≡ word vs l.k = ap (λ (y : ℕ). y + l.k) r.publics-are ∙ sym (from-get_or (publics w) (privates_word w) l.k u) in (
      map_more (of_table w) _ (state l.out l.q) vs l.k (made w a.n) l.invariant.0 v (omega (arith, from-length (publics w) (privates_word w), u)) e _
          c.make-q.ensures,
      state-length w l.out _ l.q _ _ c.make-q.ensures ∙ l.invariant.1,
    )

pub returns : goal.returns
returns c =
    let told : Counted c.args.table.now c.word-publics.result
    c.privates-privates.result =
    counted c.args.table.now c.args.index.now _ _ c.requires.0 c.word-publics.ensures.is c.privates-privates.ensures.is in
    let a = c.args in
    let w = a.table.now in
    let l = c.loop-k in
    map-done (of_table w) _ (state l.out l.q) (Lists.from (publics w) (privates_word w)) l.k (made w a.n) l.invariant.0
    (omega (arith, from-length (publics w) (privates_word w), c.loop-k-test.false, told.privates-are))
