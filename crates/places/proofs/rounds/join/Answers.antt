use Rattle.std.proofs.Common.{arith}
use Rattle.lists.specs.Lists.{same}
use Rattle.places.proofs.Growing.{joined-one, joined-past}
use Rattle.places.proofs.rounds.join.Goals as goal

pub returns-then-words-x : goal.returns-then-words-x
returns-then-words-x c = let a = c.args in joined-past a.words.now a.x a.a c.if-words-x.true

pub returns : goal.returns
unfolding same
returns c = let a = c.args in joined-one a.words.now a.x a.a (omega (arith, c.if-words-x.false))
