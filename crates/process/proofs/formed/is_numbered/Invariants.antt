use mathlib.Core.Path.{◌≡◌}
use Prim.Native.Nat.{◌≤◌}
use Rattle.scheme.specs.Scheme.{scheme}
use Rattle.process.specs.StateWords.{state_of, state_words, same_list}
use Rattle.process.proofs.Numbering.{numbered_from}
use Rattle.process.proofs.formed.is_numbered.Given as goal

abbrev pub invariant-loop-i : goal.invariant-loop-i
invariant-loop-i l = (same_list (scheme l.table) (state_words (scheme l.table) (state_of (scheme l.table) l.state)) l.state ≡ numbered_from l.table l.state l.seen l.i) × (l.seen ≤ l.i)
