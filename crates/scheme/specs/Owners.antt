-- Why a node is there, what it holds, and which definition and thread it belongs to (document 01, Process table).
use Rattle.std.specs.Prelude.{true, false, ◌&&◌, List, [], ◌∷◌, ◌++◌, ℕ, zero, suc, ltb}
use Rattle.lists.specs.Lists.{pick, same, member, first_from}
use Rattle.scheme.specs.Words.{definitions, nodes, branches, definition_thread, root, formals, node_first, node_second, is_new, branches_of, branch_name, next, is_receive}

-- a node is the root of a definition, the child of a New, or the next node of a branch
pub data Owner : Type 0 where
  root_of : ℕ → Owner
  child_of : ℕ → Owner
  next_of : ℕ → Owner
  nobody : Owner

module _ (w : List ℕ) where
  -- the node that has a branch
  unfoldable pub home : ℕ → ℕ
  home b = first_from (nodes w) (λ n. member b (branches_of w n)) 0 0

  -- the first definition, New or branch that leads to a node, in this order
  unfoldable pub pick_owner : ℕ → ℕ → ℕ → Owner
  pick_owner d n b = pick (ltb d (definitions w)) (root_of d) (pick (ltb n (nodes w)) (child_of n) (pick (ltb b (branches w)) (next_of b) nobody))

  unfoldable pub owner : ℕ → Owner
  unfolding pick_owner
  owner k =
      pick_owner (first_from (definitions w) (λ d. same (root w d) k) 0 (definitions w))
      (first_from (nodes w) (λ n. is_new w n && same (node_second w n) k) 0 (nodes w))
      (first_from (branches w) (λ b. same (next w b) k) 0 (branches w))

  -- the name that a branch binds: a receive's
  abbrev pub binds_of : ℕ → List ℕ
  binds_of b = pick (is_receive w b) (branch_name w b ∷ []) []

-- Going up from a node: each step leads to a lower node, or ends. `own` says why a node is there, `at` which node has a branch.
module _ (w : List ℕ) (own : ℕ → Owner) (at : ℕ → ℕ) where
  unfoldable pub held_names_by : ℕ → ℕ → List ℕ
  held_names_by zero n = []
  held_names_by (suc f) n = elim (own n) [
    | root_of d ↦ formals w d
    | child_of m ↦ elim (ltb m n) [ true ↦ held_names_by f m ++ (node_first w m ∷ []) | false ↦ [] ]
    | next_of b ↦ elim (ltb (at b) n) [ true ↦ held_names_by f (at b) ++ binds_of w b | false ↦ [] ]
    | nobody ↦ []
  ]

  unfoldable pub definition_by : ℕ → ℕ → ℕ
  definition_by zero n = 0
  definition_by (suc f) n = elim (own n) [
    | root_of d ↦ d
    | child_of m ↦ elim (ltb m n) [ true ↦ definition_by f m | false ↦ 0 ]
    | next_of b ↦ elim (ltb (at b) n) [ true ↦ definition_by f (at b) | false ↦ 0 ]
    | nobody ↦ 0
  ]

module _ (w : List ℕ) where
  -- "A node's held names are its definition's formals in order, then the names bound by New and receive on the way down from the root.
  -- They are the parent's held names with whatever the parent binds."
  unfoldable pub held : ℕ → List ℕ
  held n = held_names_by w (owner w) (home w) (suc n) n

  -- the definition whose body a node is in
  unfoldable pub definition : ℕ → ℕ
  definition n = definition_by w (owner w) (home w) (suc n) n

  -- the thread of a node, and of a branch
  abbrev pub thread : ℕ → ℕ
  thread n = definition_thread w (definition n)

  abbrev pub branch_thread_of : ℕ → ℕ
  branch_thread_of b = thread (home w b)
