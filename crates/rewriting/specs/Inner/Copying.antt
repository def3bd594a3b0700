-- What is copied, listed in one array: 256 words each for definitions, names, nodes, branches and arguments.
use Rattle.std.specs.Prelude.{◌≡◌, Bool, true, ◌&&◌, List, ℕ, ◌+◌, ◌≤◌, ◌<◌, length}
use Rattle.std.proofs.Math.Seq.{slice}
use Rattle.lists.specs.Lists.{pick, same, word, range, some, keep, member}
use Rattle.scheme.specs.Words.{nodes, node_first, is_call_node}
use Rattle.table.specs.Causes.{cause_sparing}
use Rattle.rewriting.specs.Rewriting.{copied, name_copies, node_copies, branch_copies, argument_copies}
use Rattle.rewriting.specs.Inner.Belonging.{Spared}
use Rattle.rewriting.specs.declared.copies.Counts.{Counts}
use Rattle.rewriting.specs.declared.copies.Part.{Part}
use Rattle.rewriting.specs.declared.copies.Part.TheVariants.{Names, Definitions, Nodes, Branches, Arguments}

-- a Call of the definition that it stands in, by lent definitions
unfoldable pub self_call : List ℕ → List ℕ → ℕ → Bool
self_call w defs n = is_call_node w n && same (node_first w n) (word defs n)

-- some node of definition d calls it
unfoldable pub called_by_itself : List ℕ → List ℕ → List ℕ → ℕ → Bool
called_by_itself w defs numbers d = some (λ n. self_call w defs n && same (word defs n) d) numbers

-- 1 at each definition that calls itself; the other words stay
pub record Marked (w defs before after : List ℕ) : Type 0 where
  pub long : length after ≡ length before
  pub marks : (d : ℕ) → d < length before → word after d ≡ pick (called_by_itself w defs (range (nodes w)) d) 1 (word before d)

-- those of some numbers that belong to a group
unfoldable pub grouped : List ℕ → List ℕ → ℕ → List ℕ
grouped of numbers group = keep (λ i. same (word of i) group) numbers

-- a list in `count` words from place i on
pub record Row (list : List ℕ) (i : ℕ) (words : List ℕ) (count : ℕ) : Type 0 where
  pub count-is : count ≡ length list
  pub listed : slice i (i + count) words ≡ list
  pub few : count ≤ 256
  pub small : (x : ℕ) → member x list ≡ true → x < 256

-- the originals of a section's copies, as a list of all has them
abbrev pub originals_in : List ℕ → Counts → Part → List ℕ
originals_in list c Definitions = slice 0 c.definitions list
originals_in list c Names = slice 256 (256 + c.names) list
originals_in list c Nodes = slice 512 (512 + c.nodes) list
originals_in list c Branches = slice 768 (768 + c.branches) list
originals_in list c Arguments = slice 1024 (1024 + c.arguments) list

-- the table is accepted with self-calls spared, and the words have what is copied
pub record Rows (w list : List ℕ) (c : Counts) : Type 0 where
  pub ok : cause_sparing w true ≡ 0
  pub reach : length list ≡ 1280
  pub definition-row : Row (copied w) 0 list c.definitions
  pub name-row : Row (name_copies w) 256 list c.names
  pub node_row : Row (node_copies w) 512 list c.nodes
  pub branch_row : Row (branch_copies w) 768 list c.branches
  pub argument-row : Row (argument_copies w) 1024 list c.arguments

-- the index of a table that is accepted with self-calls spared, and room for what is copied
pub record Listable (w index list : List ℕ) : Type 0 where
  pub spared : Spared w index
  pub list-reach : length list ≡ 1280
