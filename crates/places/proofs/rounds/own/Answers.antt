use Rattle.std.proofs.Common.{◌≡◌, ℕ, ◌+◌, ◌<◌, ◌≤◌, List, sym, ◌∙◌, subst, arith}
use Rattle.scheme.specs.Words.{names}
use Rattle.places.proofs.Bits.{one_shifted}
use Rattle.places.proofs.Controls.{few-publics, few-bounds}
use Rattle.places.proofs.Filling.{Owned, own-none, own-yes, own-no, own-done}
use Rattle.places.proofs.rounds.own.Goals.{then-is_source, else-is_source}
use Rattle.places.proofs.rounds.own.Goals.{At-loop-x}
use Rattle.places.proofs.rounds.own.Goals as goal

few : (c : At-loop-x) → c.word.result + c.word-2.result ≤ 64
few c =
    omega (arith, (let names-are : c.word.result + c.word-2.result ≡ names c.args.table.now = omega (arith, c.word.ensures.is, c.word-2.ensures.is) in names-are), few-publics c.args.table.now c.requires.0, few-bounds c.args.table.now c.requires.0)

-- the names that are looked at
names-are : (c : At-loop-x) → c.word.result + c.word-2.result ≡ names c.args.table.now
names-are c = omega (arith, c.word.ensures.is, c.word-2.ensures.is)

pub loop-x-init : goal.loop-x-init
loop-x-init c =
    own-none c.args.table.now c.args.words.now c.requires.1

pub overflow_shl-words : goal.overflow_shl-words
overflow_shl-words c = omega (arith, (few (goal.at.overflow_shl-words c).At-loop-x), c.loop-x-test.true)

pub bounds-words-x : goal.bounds-words-x
bounds-words-x c = omega (arith, (few (goal.at.bounds-words-x c).At-loop-x), c.loop-x-test.true, c.loop-x.invariant.0)

pub loop-x-preserved : goal.loop-x-preserved
loop-x-preserved c =
    let w = c.args.table.now in
    let l = c.loop-x in
    let k : l.x < 64 = omega (arith, (few (goal.at.loop-x-preserved c).At-loop-x), c.loop-x-test.true) in
    let is = c.is_source.ensures in
    elim c.if-is_source.branch [
      | then-is_source v ↦ subst (λ (ws : List ℕ). Owned w (l.x + 1) ws) (sym v.words-is)
          (own-yes w l.words l.x _ k (one_shifted l.x k) (sym is ∙ v.if-is_source.true) l.invariant)
      | else-is_source v ↦ subst (λ (ws : List ℕ). Owned w (l.x + 1) ws) (sym v.words-is)
          (own-no w l.words l.x (sym is ∙ v.if-is_source.false) l.invariant)
    ]

pub returns : goal.returns
returns c =
    let l = c.loop-x in
    own-done c.args.table.now l.words l.x (omega (arith, (names-are (goal.at.returns c).At-loop-x), c.loop-x-test.false)) l.invariant
