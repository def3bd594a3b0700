-- What is known once a table is checked and its copies are listed.
use Rattle.std.specs.Prelude.{◌≡◌, List, ℕ, Result, Ok, Err}
use Rattle.table.specs.Answer.{cause_number}
use Rattle.rewriting.specs.Outcomes.{rewrite_cause}
use Rattle.scheme.specs.Index.{IsIndex}
use Rattle.rewriting.specs.Inner.Copying.{Rows}
use Rattle.table.specs.declared.Cause.{Cause}
use Rattle.rewriting.specs.declared.copies.Counts.{Counts}

abbrev pub PreparedRight : List ℕ → List ℕ → List ℕ → Result Counts Cause → Type 0
PreparedRight w index list (Ok c) = (rewrite_cause w ≡ 0) × IsIndex w index × Rows w list c
PreparedRight w index list (Err cause) = (cause_number cause ≡ rewrite_cause w) × (rewrite_cause w ≡ 0 → ⊥)
