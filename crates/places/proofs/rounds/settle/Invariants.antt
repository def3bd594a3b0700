use Rattle.std.proofs.Common.{◌-◌, true}
use Rattle.lists.specs.Lists.{total}
use Rattle.scheme.specs.Scheme.{scheme}
use Rattle.places.proofs.Settled.{Going, most}
use Rattle.places.proofs.rounds.settle.Given as goal

abbrev pub invariant-loop : goal.invariant-loop
invariant-loop l = Going (scheme l.table) l.words l.ears true

abbrev pub decreases-loop : goal.decreases-loop
decreases-loop l = most - total l.words
