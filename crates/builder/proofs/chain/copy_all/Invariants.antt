use mathlib.Core.Path.{◌≡◌}
use mathlib.Core.List.{map}
use Prim.Native.Nat.{◌+◌, ◌-◌}
use lib.ListN.{length}
use Rattle.lists.specs.Lists.{from}
use Rattle.scheme.specs.Scheme.{scheme}
use Rattle.places.specs.Transitions.{copies}
use Rattle.places.specs.Inner.Plan.{today, argument_name}
use Rattle.builder.specs.Inner.Parts.{put}
use Rattle.builder.proofs.chain.copy_all.Given as goal

abbrev pub invariant-loop-i : goal.invariant-loop-i
invariant-loop-i l =
    (put l.table l.initial.out l.initial.q (copies (scheme l.table) (today l.table) l.c.node l.c.to l.x.k (from l.x.formal l.count)
    (map (argument_name l.table) (from l.x.argument l.count)))
    ≡ put l.table l.out l.q (copies (scheme l.table) (today l.table) l.c.node l.c.to (l.x.k + l.i) (from (l.x.formal + l.i) (l.count - l.i))
    (map (argument_name l.table) (from (l.x.argument + l.i) (l.count - l.i)))))
    × (length l.out ≡ length l.initial.out)
