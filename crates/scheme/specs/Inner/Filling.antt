-- An index while it is filled in.
use Rattle.std.specs.Prelude.{◌≡◌, List, ℕ, ◌≤◌, length, replicate}
use Rattle.lists.specs.Lists.{word}
use Rattle.scheme.specs.Index.{owners_in, homes_in, definitions_in, owner_words, home_words, parent_at, binders_at}
use Rattle.scheme.specs.declared.lookup.Parent.{Parent}
use Rattle.scheme.specs.declared.lookup.Parent.TheVariants.{Definition, New, Branch, Nobody}

-- there is room for the definitions of nodes; the words have the table's owners and homes, and 0 for each definition
pub record Standing (w x : List ℕ) : Type 0 where
  pub room : binders_at ≤ length x
  pub owners-right : owners_in x ≡ owner_words w
  pub homes-right : homes_in x ≡ home_words w
  pub clear : definitions_in x ≡ replicate 256 0

-- the definition that a step up leads to, by those of the nodes below
abbrev pub definition_step : List ℕ → Parent → ℕ
definition_step below (Definition d) = d
definition_step below (New m) = word below m
definition_step below (Branch b m) = word below m
definition_step below Nobody = 0

-- the definition of a node, by those of the nodes below it
abbrev pub node_definition : List ℕ → ℕ → ℕ
node_definition x n = definition_step (definitions_in x) (parent_at x n)
