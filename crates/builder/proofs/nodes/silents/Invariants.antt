use mathlib.Core.Path.{◌≡◌}
use Prim.Native.Nat.{◌-◌}
use lib.ListN.{length}
use Rattle.lists.specs.Lists
use Rattle.lists.specs.Lists.{flat}
use Rattle.scheme.specs.Scheme.{scheme}
use Rattle.places.specs.Transitions.{silents}
use Rattle.places.specs.Inner.Plan.{today}
use Rattle.builder.specs.Inner.Parts.{put}
use Rattle.builder.proofs.nodes.silents.Given as goal

abbrev pub invariant-loop-b : goal.invariant-loop-b
invariant-loop-b l =
    (put l.table l.initial.out l.initial.q (flat (λ b. silents (scheme l.table) (today l.table) l.n b ((scheme l.table).branch b)) (Lists.from l.first (l.end - l.first)))
    ≡ put l.table l.out l.q (flat (λ b. silents (scheme l.table) (today l.table) l.n b ((scheme l.table).branch b)) (Lists.from l.b (l.end - l.b))))
    × (length l.out ≡ length l.initial.out)
