use mathlib.Core.Path.{◌≡◌}
use mathlib.Core.List.{map}
use lib.ListN.{length, drop}
use Rattle.lists.specs.Lists
use Rattle.scheme.specs.Words.{publics}
use Rattle.places.specs.Inner.Plan.{privates_word}
use Rattle.builder.specs.Inner.Parts.{put, made}
use Rattle.builder.proofs.nodes.news.Given as goal

abbrev pub invariant-loop-k : goal.invariant-loop-k
invariant-loop-k l =
    (put l.table l.initial.out l.initial.q (map (made l.table l.n) (Lists.from (publics l.table) (privates_word l.table)))
    ≡ put l.table l.out l.q (map (made l.table l.n) (drop l.k (Lists.from (publics l.table) (privates_word l.table)))))
    × (length l.out ≡ length l.initial.out)
