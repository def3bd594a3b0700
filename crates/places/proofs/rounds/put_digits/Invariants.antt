use Rattle.std.proofs.Common.{◌≡◌, ◌/◌, ◌%◌, ◌^◌, map}
use lib.Seq.{sets}
use Rattle.lists.specs.Lists.{word, range}
use Rattle.places.proofs.rounds.put_digits.Given as goal

abbrev pub invariant-loop-x : goal.invariant-loop-x
invariant-loop-x l = (l.index ≡ sets l.initial.index l.at (map (λ y. word l.words y / 2 ^ l.first % 2 ^ l.size) (range l.x))) × (l.limit ≡ 2 ^ l.size)
