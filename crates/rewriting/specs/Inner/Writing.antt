-- The words of copies, and what is written.
use Rattle.std.specs.Prelude.{Bool, List, [], ◌∷◌, ◌++◌, ℕ}
use Rattle.lists.specs.Lists.{pick, same}
use Rattle.scheme.specs.Words.{name_kind_of, first_formal, formal_count, node_first, node_second}
use Rattle.scheme.specs.Words.{is_choice, is_new, is_silent, argument, argument_count_of}
use Rattle.rewriting.specs.Rewriting.{copy_name_of, copy_definition_of, copy_node_of, copy_branch_of, copy_argument_of, definition_copy, node_copy, branch_copy}
use Rattle.rewriting.specs.Rewriting.{rewritten_header, name_part, definition_part, thread_part, branch_part, argument_part}
use Rattle.rewriting.specs.Inner.Belonging.{Spared}
use Rattle.rewriting.specs.Inner.Copying.{self_call, Rows}
use Rattle.rewriting.specs.Inner.Counting.{Summed, Small}
use Rattle.rewriting.specs.Inner.Placing.{Placing}
use Rattle.rewriting.specs.declared.copies.Counts.{Counts}
use Rattle.rewriting.specs.declared.copies.Part.{Part}
use Rattle.rewriting.specs.declared.copies.Part.TheVariants.{Names, Definitions, Nodes, Branches, Arguments}

module _ (w : List ℕ) where
  -- the second word of a node, or of its copy, by lent definitions
  unfoldable pub target_in : List ℕ → Bool → ℕ → ℕ
  target_in defs copy n = pick copy (node_first w n) (pick (self_call w defs n) (copy_definition_of w (node_first w n)) (node_first w n))

  -- the fields of copies that are read as copies
  unfoldable pub copied_formal_of : ℕ → ℕ
  copied_formal_of d = pick (same (formal_count w d) 0) 0 (copy_name_of w (first_formal w d))

  unfoldable pub copied_first_of : ℕ → ℕ
  copied_first_of n = pick (is_choice w n) (copy_branch_of w (node_first w n)) (pick (is_new w n) (copy_name_of w (node_first w n)) (node_first w n))

  unfoldable pub copied_second_of : ℕ → ℕ
  copied_second_of n =
      pick (is_new w n) (copy_node_of w (node_second w n)) (pick (same (argument_count_of w n) 0) (node_second w n) (copy_argument_of w (node_second w n)))

  -- a name that a branch uses
  unfoldable pub copied_use_of : ℕ → ℕ → ℕ
  copied_use_of b x = pick (is_silent w b) x (copy_name_of w x)

  -- the words of a copy of entry i of a section
  abbrev pub copy_words : Part → ℕ → List ℕ
  copy_words Names i = name_kind_of w i ∷ []
  copy_words Definitions i = definition_copy w i
  copy_words Nodes i = node_copy w i
  copy_words Branches i = branch_copy w i
  copy_words Arguments i = copy_name_of w (argument w i) ∷ []

-- the index of a table that is accepted with self-calls spared, and the places of all copies
pub record Writable (w index words : List ℕ) : Type 0 where
  pub spared : Spared w index
  pub placing : Placing w words

-- what is copied, and the counts that this gives
pub record Counted (w list : List ℕ) (copies counts : Counts) : Type 0 where
  pub rows : Rows w list copies
  pub summed : Summed w copies counts
  pub small : Small w counts

-- with the places of all copies
pub record Front (w list : List ℕ) (copies counts : Counts) (words : List ℕ) : Type 0 where
  pub counted : Counted w list copies counts
  pub placing : Placing w words

pub record Back (w index list : List ℕ) (copies : Counts) (words : List ℕ) : Type 0 where
  pub rows : Rows w list copies
  pub writable : Writable w index words

-- the header and the sections up to the threads, and the sections from the branches on
unfoldable pub front_words : List ℕ → List ℕ
front_words w = rewritten_header w ++ (name_part w ++ (definition_part w ++ thread_part w))

unfoldable pub back_words : List ℕ → List ℕ
back_words w = branch_part w ++ argument_part w
