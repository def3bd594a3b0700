-- The definition that each node and each bound name belongs to, by the index of a table.
use Rattle.std.specs.Prelude.{◌≡◌, true, List, ℕ, ◌-◌, ◌≤◌, ◌<◌, ltb}
use Rattle.lists.specs.Lists.{pick, word}
use Rattle.scheme.specs.Words.{publics, definitions, nodes, names}
use Rattle.scheme.specs.Owners.{definition}
use Rattle.scheme.specs.Index.{homes_in, definitions_in, binders_in, IsIndex}
use Rattle.table.specs.Causes.{cause_sparing}
use Rattle.rewriting.specs.Rewriting.{name_definition_of}

-- the definition of what binds a name, by its number and lent homes and definitions
unfoldable pub binder_definition_in : List ℕ → List ℕ → List ℕ → ℕ → ℕ
binder_definition_in w homes defs c =
    pick (ltb c 65536) (definitions w)
    (pick (ltb c 131072) (word defs (c - 65536)) (pick (ltb c 196608) (word defs (word homes (c - 131072))) (c - 196608)))

abbrev pub name_definition_at : List ℕ → List ℕ → ℕ → ℕ
name_definition_at w index x = binder_definition_in w (homes_in index) (definitions_in index) (word (binders_in index) x)

-- the words have the definition of each node
abbrev pub Bodies : List ℕ → List ℕ → Type 0
Bodies w defs = (n : ℕ) → n < nodes w → word defs n ≡ definition w n

-- the table is accepted with self-calls spared, and the words begin with its index
pub record Spared (w index : List ℕ) : Type 0 where
  pub ok : cause_sparing w true ≡ 0
  pub right : IsIndex w index

-- the words have the definition of each bound name
abbrev pub NamesBelong : List ℕ → List ℕ → Type 0
NamesBelong w of = (x : ℕ) → publics w ≤ x → x < names w → word of x ≡ name_definition_of w x
