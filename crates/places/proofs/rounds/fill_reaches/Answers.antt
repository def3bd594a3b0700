use Rattle.std.proofs.Common.{◌≡◌, ◌+◌, ◌/◌, ◌%◌, ◌^◌, ◌≤◌, map, length, ap, ◌∙◌, arith}
use lib.Seq.{length-sets}
use Rattle.lists.specs.Lists.{word, range}
use Rattle.scheme.specs.Words.{names}
use Rattle.places.proofs.Controls.{few-publics, few-bounds}
use Rattle.places.proofs.Filling.{empty-from, reaches-put}
use Rattle.places.proofs.rounds.fill_reaches.Goals.{After-word-bounds}
use Rattle.places.proofs.rounds.fill_reaches.Goals as goal

few : (c : After-word-bounds) → c.word-publics.result + c.word-bounds.result ≤ 64
few c =
    omega (arith, (let count : c.word-publics.result + c.word-bounds.result ≡ names c.args.table.now = omega (arith, c.word-publics.ensures.is, c.word-bounds.ensures.is) in count), few-publics c.args.table.now c.requires.0.accepted, few-bounds c.args.table.now c.requires.0.accepted)

-- how many names there are
count : (c : After-word-bounds) → c.word-publics.result + c.word-bounds.result ≡ names c.args.table.now
count c =
    omega (arith, c.word-publics.ensures.is, c.word-bounds.ensures.is)

pub put_digits-requires : goal.put_digits-requires
put_digits-requires c =
    let settled = c.settle in
    let w = c.args.table.now in (
      (few (goal.at.put_digits-requires c).After-word-bounds),
      empty-from w settled.new.words settled.ensures _ ((count (goal.at.put_digits-requires c).After-word-bounds)),
      omega arith,
      omega (arith, c.word-publics.ensures.is, few-publics w c.requires.0.accepted),
      omega arith,
      omega (arith, c.requires.1),
    )

pub put_digits-requires-2 : goal.put_digits-requires-2
put_digits-requires-2 c =
    let put = c.put_digits in
    let settled = c.settle in
    let w = c.args.table.now in
    let ws = settled.new.words in (
      (few (goal.at.put_digits-requires-2 c).After-word-bounds),
      empty-from w ws settled.ensures _ ((count (goal.at.put_digits-requires-2 c).After-word-bounds)),
      omega (arith, c.word-publics.ensures.is, few-publics w c.requires.0.accepted),
      omega (arith, c.word-bounds.ensures.is, few-bounds w c.requires.0.accepted),
      omega arith,
      omega (
        arith,
        c.requires.1,
        ap length put.ensures ∙ length-sets c.args.index.now 832 (map (λ x. word ws x / 2 ^ 0 % 2 ^ c.word-publics.result) (range 64)),
      ),
    )

pub returns : goal.returns
returns c =
    let settled = c.settle in
    reaches-put c.args.table.now settled.new.words settled.ensures c.word-publics.result c.word-bounds.result
    c.word-publics.ensures.is c.word-bounds.ensures.is c.args.index.now _ _ c.put_digits.ensures c.put_digits-2.ensures
