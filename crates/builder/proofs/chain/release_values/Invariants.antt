use mathlib.Core.Path.{◌≡◌}
use Prim.Native.Nat.{◌-◌}
use lib.ListN.{length}
use Rattle.lists.specs.Lists.{from, range}
use Rattle.builder.specs.Inner.Writing.{put_all}
use Rattle.builder.specs.Inner.Parts.{state}
use Rattle.builder.specs.Inner.Released.{given}
use Rattle.builder.proofs.chain.release_values.Given as goal

abbrev pub invariant-loop-i : goal.invariant-loop-i
invariant-loop-i l =
    (put_all (given l.c l.x l.row l.initial.back) (state l.initial.out l.initial.q) (range l.count) ≡ put_all (given l.c l.x l.row l.initial.back) (state l.out l.q) (from l.i (l.count - l.i)))
    × (length l.out ≡ length l.initial.out) × (l.back ≡ l.initial.back)
