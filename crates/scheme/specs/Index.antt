-- What owns each node, the node of each branch, the definition of each node and what binds each name, kept in lent words, and what they tell: the step up
-- from a node, its definition and thread, the names that it holds, the thread of a name. The index of a table is one list that has all four.
use Rattle.std.specs.Prelude.{◌≡◌, Bool, true, false, List, [], ◌++◌, map, ℕ, suc, ◌+◌, ◌-◌, ltb, leb, length, take, drop}
use Rattle.std.proofs.lemmas.List.Edits.{sets}
use Rattle.std.proofs.Math.Seq.{slice}
use Rattle.lists.specs.Lists.{pick, word, range}
use Rattle.scheme.specs.Words.{threads, nodes, definition_thread}
use Rattle.scheme.specs.Scheme.{Binder, by_new, by_receive, by_formal, unbound, binder_of}
use Rattle.scheme.specs.Owners.{Owner, root_of, child_of, next_of, nobody, owner, home, held_names_by, definition_by}
use Rattle.scheme.specs.declared.lookup.Parent.{Parent}
use Rattle.scheme.specs.declared.lookup.Parent.TheVariants.{Definition, New, Branch, Nobody}

-- an owner as a number
abbrev pub owner_number : Owner → ℕ
owner_number (root_of d) = 65536 + d
owner_number (child_of n) = 131072 + n
owner_number (next_of b) = 196608 + b
owner_number nobody = 0

-- the owner that a number stands for
unfoldable pub numbered : ℕ → Owner
numbered c = pick (ltb c 65536) nobody (pick (ltb c 131072) (root_of (c - 65536)) (pick (ltb c 196608) (child_of (c - 131072)) (next_of (c - 196608))))

-- the owner of a node, and the node that has a branch, in lent words
abbrev pub owner_in : List ℕ → ℕ → Owner
owner_in owners n = numbered (word owners n)

abbrev pub home_in : List ℕ → ℕ → ℕ
home_in homes b = word homes b

-- one step up, to a lower node or to an end
abbrev pub step_to_owner : (ℕ → ℕ) → ℕ → Owner → Parent
step_to_owner at n (root_of d) = Definition d
step_to_owner at n (child_of m) = pick (ltb m n) (New m) Nobody
step_to_owner at n (next_of b) = pick (ltb (at b) n) (Branch b (at b)) Nobody
step_to_owner at n nobody = Nobody

abbrev pub parent_of : (ℕ → Owner) → (ℕ → ℕ) → ℕ → Parent
parent_of own at n = step_to_owner at n (own n)

-- a node's definition and held names by lent owners and homes
unfoldable pub definition_in : List ℕ → List ℕ → ℕ → ℕ
definition_in owners homes n = definition_by [] (owner_in owners) (home_in homes) (suc n) n

unfoldable pub held_in : List ℕ → List ℕ → List ℕ → ℕ → List ℕ
held_in w owners homes n = held_names_by w (owner_in owners) (home_in homes) (suc n) n

-- the thread of a node by lent definitions
abbrev pub thread_in : List ℕ → List ℕ → ℕ → ℕ
thread_in w definitions n = definition_thread w (word definitions n)

-- what binds a name as a number
abbrev pub binder_number : Binder → ℕ
binder_number (by_new n) = 65536 + n
binder_number (by_receive b) = 131072 + b
binder_number (by_formal d) = 196608 + d
binder_number unbound = 0

-- the thread of what binds a name, by that number and lent homes and definitions
unfoldable pub binder_thread_in : List ℕ → List ℕ → List ℕ → ℕ → ℕ
binder_thread_in w homes definitions c =
    pick (ltb c 65536) (threads w)
    (pick (ltb c 131072) (thread_in w definitions (c - 65536))
    (pick (ltb c 196608) (thread_in w definitions (home_in homes (c - 131072))) (definition_thread w (c - 196608))))

-- the names written over the first words of a buffer, as far as it reaches, and their number
pub record HeldNames (names before : List ℕ) (r : ℕ) (after : List ℕ) : Type 0 where
  pub count : r ≡ length names
  pub written : after ≡ sets before 0 names

-- ---- the index of a table: one list of 832 words

-- where the homes, the definitions and the binders begin, and where the index ends; the owners begin at 0
abbrev pub homes_at : ℕ
homes_at = 256

abbrev pub definitions_offset : ℕ
definitions_offset = 512

abbrev pub binders_at : ℕ
binders_at = 768

abbrev pub index_end : ℕ
index_end = 832

-- the parts of lent words; what follows them is no part of the index
unfoldable pub owners_in : List ℕ → List ℕ
owners_in x = slice 0 homes_at x

unfoldable pub homes_in : List ℕ → List ℕ
homes_in x = slice homes_at definitions_offset x

unfoldable pub definitions_in : List ℕ → List ℕ
definitions_in x = slice definitions_offset binders_at x

unfoldable pub binders_in : List ℕ → List ℕ
binders_in x = slice binders_at index_end x

module _ (w : List ℕ) where
  -- what owns each node, and the node of each branch
  unfoldable pub owner_words : List ℕ
  owner_words = map (λ k. owner_number (owner w k)) (range 256)

  unfoldable pub home_words : List ℕ
  home_words = map (home w) (range 256)

  -- the definition of each node that the table has
  abbrev pub definition_word_of : ℕ → Bool → ℕ
  definition_word_of n true = definition_in owner_words home_words n
  definition_word_of n false = 0

  unfoldable pub definition_words : List ℕ
  definition_words = map (λ n. definition_word_of n (ltb n (nodes w))) (range 256)

  -- what binds each name
  unfoldable pub binder_words : List ℕ
  binder_words = map (λ x. binder_number (binder_of w x)) (range 64)

  -- the index up to the binders, and the whole
  unfoldable pub body_words : List ℕ
  body_words = owner_words ++ home_words ++ definition_words

  unfoldable pub index_words : List ℕ
  index_words = body_words ++ binder_words

-- the words begin with the table's index, or with all of it up to the binders
pub record HasBodies (w x : List ℕ) : Type 0 where
  pub front : take binders_at x ≡ body_words w

pub record IsIndex (w x : List ℕ) : Type 0 where
  pub front : take index_end x ≡ index_words w

-- filling in the index, or all of it up to the binders: whether there is room for it, and the words afterwards; too few are left as they were
pub record FilledBodies (w lent : List ℕ) (r : Bool) (after : List ℕ) : Type 0 where
  pub answer : r ≡ leb binders_at (length lent)
  pub words : after ≡ pick (leb binders_at (length lent)) (body_words w ++ drop binders_at lent) lent

pub record Filled (w lent : List ℕ) (r : Bool) (after : List ℕ) : Type 0 where
  pub answer : r ≡ leb index_end (length lent)
  pub words : after ≡ pick (leb index_end (length lent)) (index_words w ++ drop index_end lent) lent

-- ---- what an index tells, whatever its words are

-- the step up from a node
abbrev pub parent_at : List ℕ → ℕ → Parent
parent_at x n = parent_of (owner_in (owners_in x)) (home_in (homes_in x)) n

-- the names that a node holds
abbrev pub held_at : List ℕ → List ℕ → ℕ → List ℕ
held_at w x n = held_in w (owners_in x) (homes_in x) n

-- the threads of a node, of a branch and of what binds a name
abbrev pub thread_at : List ℕ → List ℕ → ℕ → ℕ
thread_at w x n = thread_in w (definitions_in x) n

abbrev pub branch_thread_at : List ℕ → List ℕ → ℕ → ℕ
branch_thread_at w x b = thread_at w x (home_in (homes_in x) b)

abbrev pub name_thread_at : List ℕ → List ℕ → ℕ → ℕ
name_thread_at w x name = binder_thread_in w (homes_in x) (definitions_in x) (word (binders_in x) name)
