use mathlib.Core.Path.{◌≡◌}
use Prim.Native.Nat.{◌*◌}
use lib.ListN.{length, drop}
use lib.Seq.{sets}
use Rattle.print.specs.Words.{words_of}
use Rattle.print.proofs.fill_words.Given as goal

abbrev pub invariant-loop-i : goal.invariant-loop-i
invariant-loop-i l = (sets l.initial.out 0 (words_of l.bytes) ≡ sets l.out l.i (words_of (drop (2 * l.i) l.bytes))) × (length l.out ≡ length l.initial.out)
