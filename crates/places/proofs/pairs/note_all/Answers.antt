use Rattle.std.proofs.Common.{◌≡◌, ℕ, ◌&&◌, subst, arith}
use Rattle.lists.specs.Lists.{same}
use Rattle.places.specs.Sides.{heard_at}
use Rattle.places.specs.Inner.Sets.{Adds}
use Rattle.places.specs.Inner.Meeting.{is_noted}
use Rattle.places.proofs.Growing.{some-none, adds_none, adds-next}
use Rattle.places.proofs.Noting.{noted_to, noted-all}
use Rattle.places.proofs.pairs.note_all.Invariants.{threads}
use Rattle.places.proofs.pairs.note_all.Goals as goal

pub loop-k-init : goal.loop-k-init
loop-k-init c =
    let a = c.args in
    let l = a.list.now in
    adds_none a.words.now (noted_to (heard_at l) (threads l) 0)
    (λ x o. some-none (λ j. is_noted (heard_at l j) (threads l j) x && same j o))

pub loop-k-preserved : goal.loop-k-preserved
loop-k-preserved c =
    let a = c.args in
    let l = c.loop-k in
    let xs = a.list.now in
    adds-next a.words.now l.words c.note.new.words (λ j x o. is_noted (heard_at xs j) (threads xs j) x && same j o) l.k l.invariant c.note.ensures

pub returns : goal.returns
returns c =
    let l = c.loop-k in
    let a = c.args in
    let xs = a.list.now in
    let e : l.k ≡ a.count = omega (arith, c.loop-k-test.false) in
    noted-all (heard_at xs) (threads xs) a.words.now l.words a.count c.requires.1
    (subst (λ (i : ℕ). Adds a.words.now l.words (noted_to (heard_at xs) (threads xs) i)) e l.invariant)
