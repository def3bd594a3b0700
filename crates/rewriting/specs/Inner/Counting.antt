-- The counts of the rewritten table.
use Rattle.std.specs.Prelude.{◌≡◌, Bool, ◌&&◌, List, ℕ, ◌+◌, ◌*◌, ◌≤◌, leb}
use Rattle.scheme.specs.Words.{publics, bounds, definitions, threads, nodes, branches, arguments}
use Rattle.rewriting.specs.Rewriting.{header_of}
use Rattle.rewriting.specs.declared.copies.Counts.{Counts}

-- few of each
pub record Few (c : Counts) : Type 0 where
  pub few-definitions : c.definitions ≤ 256
  pub few-names : c.names ≤ 256
  pub few-nodes : c.nodes ≤ 256
  pub few-branches : c.branches ≤ 256
  pub few-arguments : c.arguments ≤ 256

-- the table's counts and those of the copies, added
pub record Summed (w : List ℕ) (copies sums : Counts) : Type 0 where
  pub all-definitions : sums.definitions ≡ definitions w + copies.definitions
  pub all-names : sums.names ≡ bounds w + copies.names
  pub all-nodes : sums.nodes ≡ nodes w + copies.nodes
  pub all-branches : sums.branches ≡ branches w + copies.branches
  pub all-arguments : sums.arguments ≡ arguments w + copies.arguments

-- the counts are within their bounds
unfoldable pub counts_within : Counts → Bool
counts_within c = leb c.names 32 && (leb c.definitions 32 && (leb c.nodes 256 && (leb c.branches 256 && leb c.arguments 256)))

-- counts that a header has room for
pub record Small (w : List ℕ) (c : Counts) : Type 0 where
  pub few : Few c
  pub few-publics : publics w ≤ 32
  pub few-threads : threads w ≤ 8

-- the header that they give, and how many words
unfoldable pub header_with : List ℕ → Counts → List ℕ
header_with w c = header_of (publics w) c.names c.definitions (threads w) c.nodes c.branches c.arguments

unfoldable pub size_with : List ℕ → Counts → ℕ
size_with w c = 13 + c.names + 4 * c.definitions + threads w + 3 * c.nodes + 4 * c.branches + c.arguments
