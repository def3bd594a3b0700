-- What the calls answer and what they leave in the lent output (document 01, Causes of refusal).
use Rattle.std.proofs.Math.Option.{Option, none, some}
use Rattle.std.specs.Prelude.{Some, None, List, ◌++◌, ℕ, ltb, length, drop}
use Rattle.std.specs.Prelude as P
use Rattle.lists.specs.Lists.{pick}

-- a cause's number, 0 where nothing is refused; how many bytes or words were written; the lent output as the call leaves it
pub record Outcome : Type 0 where
  pub number : ℕ
  pub value : Option ℕ
  pub left : List ℕ

-- 10: "lent output shorter than the answer"; the number is returned, and all buffers are left as they were
abbrev pub too_short : List ℕ → Outcome
too_short lent = record { number = 10; value = none; left = lent }

-- so many were written, and the output holds this
abbrev pub done : ℕ → List ℕ → Outcome
done count left = record { number = 0; value = some count; left = left }

-- "Of a longer output only the answer's part changes."
abbrev pub written : List ℕ → List ℕ → Outcome
written text lent = done (length text) (text ++ drop (length text) lent)

-- what the rules give for a text and a lent output
unfoldable pub answered : List ℕ → List ℕ → Outcome
answered text lent = pick (ltb (length lent) (length text)) (too_short lent) (written text lent)

-- document 01's number, and the value, of each answer, with the lent output as the call left it
abbrev pub outcome_of : P.Option ℕ → List ℕ → Outcome
outcome_of (Some count) left = done count left
outcome_of None left = too_short left
