use Rattle.std.proofs.Common.{◌≡◌, ℕ, List, map, refl, ap, ◌∙◌, arith}
use lib.Seq.{sets}
use Rattle.lists.specs.Lists.{from, range}
use Rattle.lists.proofs.Stores.{store-more}
use Rattle.scheme.specs.Words.{branches}
use Rattle.places.specs.Sides.{partner_set, pair_words}
use Rattle.places.proofs.Hearing.{receives-few, set_word}
use Rattle.places.proofs.Noting.{noted_here}
use Rattle.places.proofs.pairs.fill_pairs.Goals as goal

pub note_all-requires : goal.note_all-requires
note_all-requires c =
    (omega (arith, c.receives-count.ensures.0, receives-few c.args.table.now c.requires.0.accepted), refl)

pub loop-b-init : goal.loop-b-init
unfolding from
loop-b-init c = refl

pub set_of-set-requires : goal.set_of-set-requires
set_of-set-requires c =
    let a = c.args in (
      c.requires.0,
      noted_here a.table.now a.index.now c.requires.0 a.pairs.now _ (omega (arith, c.requires.1)) c.receives-count.ensures.1
          c.receives-count.result c.receives-count.ensures.0 _ c.note_all.ensures,
    )

pub overflow_cast-set : goal.overflow_cast-set
overflow_cast-set c =
    let a = c.args in
    omega (arith, c.set_of-set.ensures, set_word a.table.now a.index.now c.requires.0.accepted c.loop-b.b)

pub loop-b-preserved : goal.loop-b-preserved
loop-b-preserved c =
    let a = c.args in
    let l = c.loop-b in
    c.store.ensures ∙ store-more (partner_set a.table.now a.index.now) _ 256 l.b l.pairs l.invariant c.set_of-set.result c.set_of-set.ensures

pub returns : goal.returns
unfolding pair_words
returns c =
    let a = c.args in
    let w = a.table.now in
    let l = c.loop-b in
    let e : l.b ≡ branches w = omega (arith, c.loop-b-test.false, c.word-branches.ensures.is) in
    l.invariant ∙ rw e (ap (λ (p : List ℕ). sets p 256 (map (partner_set w a.index.now) (range (branches w)))) c.receives-count.ensures.1)
