-- Where threads stand and which values names have, all in lent words.
use Rattle.std.specs.Prelude.{◌≡◌, List, ℕ, ◌<◌, ltb}
use Rattle.std.proofs.Math.Option.{Option, some}
use Rattle.lists.specs.Lists.{pick, word}
use Rattle.scheme.specs.Words
use Rattle.scheme.specs.Words.{publics, threads}
use Rattle.table.specs.Causes.{cause}
use Rattle.process.specs.Inner.Values.{value_at}
use Rattle.readback.specs.Configurations.{Spot, spot}

-- each thread stands at a node of the table
abbrev pub AtNodes : List ℕ → List ℕ → Type 0
AtNodes w nodes = (t : ℕ) → t < threads w → word nodes t < Words.nodes w

abbrev pub spot_at : List ℕ → List ℕ → ℕ → Spot
spot_at nodes indexes t = spot (word nodes t) (word indexes t)

-- a public name has itself
abbrev pub value_found_in : List ℕ → List ℕ → ℕ → Option ℕ
value_found_in w values y = pick (ltb y (publics w)) (some y) (value_at (word values y))

-- a node of an accepted table
pub record NodeOf (w : List ℕ) (n : ℕ) : Type 0 where
  pub accepted : cause w ≡ 0
  pub inside : n < Words.nodes w

-- a node of an accepted table that is a Call, and a name
pub record CallOf (w : List ℕ) (n x : ℕ) : Type 0 where
  pub node_of : NodeOf w n
  pub is-call : Words.node_kind w n ≡ 3
  pub small : x < 65535
