-- What the calls of Item 1 answer and leave (document 02): 1 to 8, 9 with self-calls spared, 2, then 10 for the rewriting and 5 for a number.
use Rattle.std.specs.Prelude.{true, List, [], ℕ, ltb, length}
use Rattle.std.proofs.Math.Option.{some}
use Rattle.lists.specs.Lists.{pick, same, word}
use Rattle.table.specs.Causes.{cause_sparing, are_counts_right}
use Rattle.process.specs.Outcomes.{Outcome, refusal, answered}
use Rattle.rewriting.specs.Rewriting.{rewritten, node_origins, branch_origins, name_origins}

-- "After the other causes, a rewritten table beyond a bound is refused with 2"
unfoldable pub rewrite_cause : List ℕ → ℕ
rewrite_cause w = pick (same (cause_sparing w true) 0) (pick (are_counts_right (rewritten w)) 0 2) (cause_sparing w true)

-- "then one that doesn't fit the lent table with 10": the words of the rewritten table; the answer says how many
unfoldable pub rewrite_outcome : List ℕ → List ℕ → Outcome
rewrite_outcome w lent = pick (same (rewrite_cause w) 0) (answered (length (rewritten w)) (rewritten w) lent) (refusal (rewrite_cause w) lent)

-- "a copy's nodes, branches and names can be read back as their originals, others as themselves; a number the rewritten table doesn't have is refused
-- with 5, last": no words are lent
unfoldable pub origin_at : List ℕ → ℕ → Outcome
origin_at origins number =
    pick (ltb number (length origins)) (record { number = 0; value = some (word origins number); left = [] }) (refusal 5 [])

unfoldable pub origin_outcome : List ℕ → List ℕ → ℕ → Outcome
origin_outcome w origins number = pick (same (rewrite_cause w) 0) (origin_at origins number) (refusal (rewrite_cause w) [])

abbrev pub node_origin : List ℕ → ℕ → Outcome
node_origin w n = origin_outcome w (node_origins w) n

abbrev pub branch_origin : List ℕ → ℕ → Outcome
branch_origin w b = origin_outcome w (branch_origins w) b

abbrev pub name_origin : List ℕ → ℕ → Outcome
name_origin w x = origin_outcome w (name_origins w) x
