use mathlib.Core.List.{map}
use Prim.Native.Nat.{◌+◌, ◌-◌}
use Rattle.lists.specs.Lists.{word, from}
use Rattle.process.proofs.Listed.{Left}
use Rattle.rewriting.proofs.words.write_words.Given as goal

abbrev pub invariant-loop-i : goal.invariant-loop-i
invariant-loop-i l = Left (map (word l.table) (from l.first l.count)) l.initial.out l.at (map (λ k. word l.table (l.first + k)) (from l.i (l.count - l.i))) l.out (l.at + l.i)
