use Rattle.std.proofs.Common.{ℕ, ◌+◌, ◌*◌, List}
use Rattle.lists.specs.Lists.{word}
use Rattle.places.specs.Sides.{heard_at}
use Rattle.places.specs.Inner.Sets.{Adds}
use Rattle.places.proofs.Noting.{noted_to}
use Rattle.places.proofs.pairs.note_all.Given as goal

abbrev pub threads : List ℕ → ℕ → ℕ
threads list k = word list (8 * k + 1)

abbrev pub invariant-loop-k : goal.invariant-loop-k
invariant-loop-k l = Adds l.initial.words l.words (noted_to (heard_at l.list) (threads l.list) l.k)
