-- An accepted table with its index: what is known where a function takes both.
use Rattle.std.specs.Prelude.{◌≡◌, List, ℕ}
use Rattle.scheme.specs.Index.{IsIndex}
use Rattle.table.specs.Causes.{cause}

-- the table is accepted, and the words begin with its index
pub record Known (w index : List ℕ) : Type 0 where
  pub accepted : cause w ≡ 0
  pub right : IsIndex w index
