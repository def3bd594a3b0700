use mathlib.Core.Path.{◌≡◌, ◌∙◌}
use Prim.Native.Nat.{◌<◌}
use native.Mathlib.Omega.{arith}
use lib.ListN.{length}
use Rattle.scheme.specs.Scheme.{scheme}
use Rattle.places.specs.Transitions.{copying}
use Rattle.places.specs.Inner.Plan.{today, values}
use Rattle.builder.specs.Inner.Parts.{state, of_table}
use Rattle.places.proofs.Starts.{row_is}
use Rattle.builder.proofs.Chains.{state-length}
use Rattle.builder.proofs.ValueLoops.{map-done, map-inside, map_more, Valued, valued, value-asks, count-asks}
use Rattle.builder.proofs.chain.copy_formal.Goals.{After-value_count-count, In-loop-i}
use Rattle.builder.proofs.chain.copy_formal.Goals as goal

-- the values of the name, as they are read
told : (c : After-value_count-count)
    → Valued c.args.table.now c.args.x.argument c.word-publics.result c.privates.result c.reach_of-r.result c.value_count-count.result
told c =
    valued c.args.table.now c.args.index.now c.args.x.argument _ _ _ _ c.requires.0 c.word-publics.ensures.is c.privates.ensures.is
    c.reach_of-r.ensures c.value_count-count.ensures

-- a turn's number is that of a value
within : (c : In-loop-i) → c.value_count-count.result ≡ length (values c.args.table.now c.args.x.argument)
    → c.loop-i.i < length (values c.args.table.now c.args.x.argument)
within c e = omega (arith, e, c.loop-i-test.true)

-- ---- the answers

pub value_count-count-requires : goal.value_count-count-requires
value_count-count-requires c =
    count-asks c.args.table.now c.args.index.now _ c.requires.0 c.privates.ensures.is

pub value_at-requires : goal.value_at-requires
value_at-requires c =
    value-asks _ _ _ _ _ _ (told (goal.at.value_at-requires c).After-value_count-count) c.loop-i.i c.loop-i-test.true

pub copy-q-requires : goal.copy-q-requires
copy-q-requires c =
    let at = goal.at.copy-q-requires c in
    let a = c.args in
    let p = c.requires in
    let w = a.table.now in
    let y = a.index.now in
    let l = c.loop-i in
    let t = told at.After-value_count-count in
    let v = c.value_at in
    let u = within at.In-loop-i t.count-is in (
      p.0,
      p.1,
      p.2,
      p.3,
      p.4,
      p.5,
      record { high = p.6; value = t.member_is l.i v.result u v.ensures },
      record { low = p.3; high = p.4; value = p.7 v.result (t.member_is l.i v.result u v.ensures) },
      map-inside (of_table w) _ (state l.out l.q) (values w a.x.argument) l.i (copying (scheme w) (today w) a.c.node a.c.to a.x.k
          a.x.formal a.x.argument)
          l.invariant.0 v.result u (t.value-is l.i v.result u v.ensures) p.8,
      λ h m. c.row_start-argument.ensures ∙ row_is w y p.0 a.x.argument h m,
      λ h m. c.row_start-formal.ensures ∙ row_is w y p.0 a.x.formal h m,
    )

pub loop-i-preserved : goal.loop-i-preserved
loop-i-preserved c =
    let at = goal.at.loop-i-preserved c in
    let a = c.args in
    let w = a.table.now in
    let l = c.loop-i in
    let t = told at.After-value_count-count in
    let v = c.value_at in
    let u = within at.In-loop-i t.count-is in (
      map_more (of_table w) _ (state l.out l.q) (values w a.x.argument) l.i (copying (scheme w) (today w) a.c.node a.c.to a.x.k
          a.x.formal a.x.argument)
          l.invariant.0 v.result u (t.value-is l.i v.result u v.ensures) _ c.copy-q.ensures,
      state-length w l.out _ l.q _ _ c.copy-q.ensures ∙ l.invariant.1,
    )

pub returns : goal.returns
returns c =
    let a = c.args in
    let w = a.table.now in
    let l = c.loop-i in
    map-done (of_table w) _ (state l.out l.q) (values w a.x.argument) l.i (copying (scheme w) (today w) a.c.node a.c.to a.x.k
    a.x.formal a.x.argument) l.invariant.0
    (omega (arith, (told (goal.at.returns c).After-value_count-count).count-is, c.loop-i-test.false))
