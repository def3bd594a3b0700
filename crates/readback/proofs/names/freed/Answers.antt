use mathlib.Core.Path.{◌≡◌, sym, ◌∙◌}
use Prim.Native.Nat.{ℕ, ◌<◌}
use native.Mathlib.Omega.{arith}
use Rattle.lists.specs.Lists.{same}
use Rattle.scheme.specs.Scheme.{scheme}
use Rattle.places.specs.Inner.Plan.{privates_word}
use Rattle.places.proofs.Plans.{few-counted}
use Rattle.readback.specs.Inner.Standing.{holds_at}
use Rattle.readback.proofs.Valuing.{is_name}
use Rattle.readback.proofs.Freeing.{private-word, taken, taken-inside, counting-start, counting-twice, counting_more, counting-done}
use Rattle.readback.proofs.names.freed.Goals.{After-private_value-n}
use Rattle.readback.proofs.names.freed.Goals as goal

-- what the private value of x tells
told : (c : After-private_value-n) →
    let w = c.args.table.now in
    ((k : ℕ) → k < privates_word w → holds_at (scheme w) c.args.marking.now k c.loop-x.x ≡ same c.private_value-n.result k)
    × (c.private_value-n.result < 64 → c.private_value-n.result < privates_word w)
told c =
    let nm = is_name c.args.table.now c.args.marking.now c.word-publics.result c.word.result c.word-publics.ensures.is
    c.word.ensures.is c.loop-x.x c.loop-x.auto.x c.loop-x-test.true in (
      taken c.args.table.now c.args.marking.now c.args.values.now c.requires.0.accepted c.requires.1 c.loop-x.x nm
          c.private_value-n.result c.private_value-n.ensures,
      taken-inside c.args.table.now c.args.marking.now c.args.values.now c.requires.0.accepted c.requires.1 c.loop-x.x nm
          c.private_value-n.result c.private_value-n.ensures,
    )

pub free_values-set-requires : goal.free_values-set-requires
free_values-set-requires c =
    omega (arith, few-counted c.args.table.now c.args.index.now c.requires.0)

pub loop-x-init : goal.loop-x-init
loop-x-init c =
    counting-start c.args.table.now c.args.index.now c.args.marking.now c.requires.0 c.word-publics.result c.word.result
    c.word-publics.ensures.is c.word.ensures.is c.free_values-set.result c.free_values-set.ensures

pub private_value-n-requires : goal.private_value-n-requires
private_value-n-requires c =
    let nm = is_name c.args.table.now c.args.marking.now c.word-publics.result c.word.result c.word-publics.ensures.is
    c.word.ensures.is c.loop-x.x c.loop-x.auto.x c.loop-x-test.true in (
      nm,
      private-word c.args.table.now c.args.marking.now c.args.values.now c.requires.0.accepted c.requires.1 c.loop-x.x nm,
    )

pub returns-then-has : goal.returns-then-has
returns-then-has c =
    let l = c.loop-x in
    sym (counting-twice c.args.table.now c.args.marking.now c.requires.0.accepted l.set l.x _ l.invariant c.loop-x-test.true
    c.private_value-n.result ((told (goal.at.returns-then-has c).After-private_value-n)).0 (sym c.has.ensures ∙ c.if-has.true))

pub loop-x-preserved : goal.loop-x-preserved
loop-x-preserved c =
    let l = c.loop-x in
    counting_more c.args.table.now c.args.marking.now c.requires.0.accepted l.set l.x _ l.invariant c.loop-x-test.true
    c.private_value-n.result ((told (goal.at.loop-x-preserved c).After-private_value-n)).0 _ (sym c.has.ensures ∙ c.if-has.false) ((told (goal.at.loop-x-preserved c).After-private_value-n)).1
    c.with_number-set.ensures

pub returns : goal.returns
returns c =
    let l = c.loop-x in
    counting-done c.args.table.now c.args.index.now c.args.marking.now c.requires.0 l.set l.x _ l.invariant
    c.loop-x-test.false c.rank.result c.privates-count.result c.rank.ensures.0 c.privates-count.ensures.is
