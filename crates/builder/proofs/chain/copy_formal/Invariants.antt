use mathlib.Core.Path.{◌≡◌}
use mathlib.Core.List.{map}
use lib.ListN.{length, drop}
use Rattle.scheme.specs.Scheme.{scheme}
use Rattle.places.specs.Transitions.{copying}
use Rattle.places.specs.Inner.Plan.{today, values}
use Rattle.builder.specs.Inner.Parts.{put}
use Rattle.builder.proofs.chain.copy_formal.Given as goal

abbrev pub invariant-loop-i : goal.invariant-loop-i
invariant-loop-i l =
    (put l.table l.initial.out l.initial.q (map (copying (scheme l.table) (today l.table) l.c.node l.c.to l.x.k l.x.formal l.x.argument) (values l.table l.x.argument))
    ≡ put l.table l.out l.q (map (copying (scheme l.table) (today l.table) l.c.node l.c.to l.x.k l.x.formal l.x.argument) (drop l.i (values l.table l.x.argument))))
    × (length l.out ≡ length l.initial.out)
