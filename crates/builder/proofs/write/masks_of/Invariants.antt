use mathlib.Core.Path.{◌≡◌}
use mathlib.Core.List.{map}
use lib.ListN.{length, take}
use Rattle.builder.specs.Inner.Writing.{mask_of}
use Rattle.builder.proofs.write.masks_of.Given as goal

abbrev pub invariant-loop-k : goal.invariant-loop-k
invariant-loop-k l = (length l.masks ≡ 16) × (take l.k l.masks ≡ map (mask_of l.rise) (take l.k l.list))
