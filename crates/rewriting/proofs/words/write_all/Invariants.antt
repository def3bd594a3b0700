use mathlib.Core.Path.{◌≡◌}
use Prim.Native.Nat.{◌+◌}
use lib.ListN.{drop}
use Rattle.process.proofs.Listed.{Left}
use Rattle.rewriting.proofs.words.write_all.Given as goal

abbrev pub invariant-loop-word : goal.invariant-loop-word
invariant-loop-word g l = Left l.fn.words l.initial.out l.at (drop l.word-index l.fn.words) l.out l.next × (l.next ≡ l.at + l.word-index)
