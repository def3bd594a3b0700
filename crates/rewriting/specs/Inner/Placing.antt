-- Where a number stands among those copied, in one array: 257 words each for definitions, names, nodes, branches and arguments, the last for every
-- number that is not there.
use Rattle.std.specs.Prelude.{◌≡◌, true, ◌⊎◌, List, ◌++◌, ℕ, ◌+◌, ◌≤◌, ◌<◌, ltb, length}
use Rattle.lists.specs.Lists.{pick, word, range, member}
use Rattle.scheme.specs.Words.{definitions, names, nodes, branches, arguments}
use Rattle.table.specs.Causes.{cause_sparing}
use Rattle.process.specs.StateWords.{place}
use Rattle.rewriting.specs.Inner.Copying.{originals_in}
use Rattle.rewriting.specs.Inner.Counting.{Few}
use Rattle.rewriting.specs.declared.copies.Counts.{Counts}
use Rattle.rewriting.specs.declared.copies.Part.{Part}
use Rattle.rewriting.specs.declared.copies.Part.TheVariants.{Names, Definitions, Nodes, Branches, Arguments}
use Rattle.rewriting.specs.Rewriting.{copied, name_copies, node_copies, branch_copies, argument_copies}

-- the place of x by the words from place i on
unfoldable pub place_found_at : List ℕ → ℕ → ℕ → ℕ
place_found_at words i x = pick (ltb x 256) (word words (i + x)) (word words (i + 256))

-- where the places of a section start
abbrev pub start_of : Part → ℕ
start_of Definitions = 0
start_of Names = 257
start_of Nodes = 514
start_of Branches = 771
start_of Arguments = 1028

module _ (w : List ℕ) where
  -- how many entries a section has
  abbrev pub entries_of : Part → ℕ
  entries_of Definitions = definitions w
  entries_of Names = names w
  entries_of Nodes = nodes w
  entries_of Branches = branches w
  entries_of Arguments = arguments w

  -- the originals of its copies
  abbrev pub originals_of : Part → List ℕ
  originals_of Definitions = copied w
  originals_of Names = name_copies w
  originals_of Nodes = node_copies w
  originals_of Branches = branch_copies w
  originals_of Arguments = argument_copies w

  -- the number of the copy of entry i; of a number of the rewritten table, what it is or is a copy of
  abbrev pub copy_of : Part → ℕ → ℕ
  copy_of part i = entries_of part + place i (originals_of part)

  abbrev pub origins_of : Part → List ℕ
  origins_of part = range (entries_of part) ++ originals_of part

-- small numbers
abbrev pub AllSmall : List ℕ → Type 0
AllSmall list = (x : ℕ) → member x list ≡ true → x < 256

-- few small numbers, and room for their places from place i on
pub record Numberable (list : List ℕ) (i : ℕ) (words : List ℕ) : Type 0 where
  pub few : length list ≤ 256
  pub small : AllSmall list
  pub room : i + 257 ≤ length words
  pub low : i ≤ 1280

-- few small numbers in every row
pub record Listing (list : List ℕ) (c : Counts) : Type 0 where
  pub reach : length list ≡ 1280
  pub few : Few c
  pub small : (part : Part) → AllSmall (originals_in list c part)

-- places of the numbers below 257 from place i on; the other words stay
pub record Numbered (list : List ℕ) (i : ℕ) (before after : List ℕ) : Type 0 where
  pub long : length after ≡ length before
  pub here : (x : ℕ) → x < 257 → word after (i + x) ≡ place x list
  pub others : (k : ℕ) → (k < i) ⊎ (i + 257 ≤ k) → word after k ≡ word before k

-- the words from place i on have the place of every number
pub record Placed (list : List ℕ) (i : ℕ) (words : List ℕ) : Type 0 where
  pub is : (x : ℕ) → place_found_at words i x ≡ place x list
  pub few : length list ≤ 256

-- the words have the places of what the rows have
abbrev pub Places : List ℕ → Counts → List ℕ → Type 0
Places list c words = (part : Part) → Placed (originals_in list c part) (start_of part) words

-- the table is accepted with self-calls spared, and the words have the place of every copy
pub record Placing (w words : List ℕ) : Type 0 where
  pub ok : cause_sparing w true ≡ 0
  pub placed : (part : Part) → Placed (originals_of w part) (start_of part) words
