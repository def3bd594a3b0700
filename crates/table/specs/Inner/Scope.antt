-- The scope check of a body: "A body is checked node by node, each choice through its branches, each branch through its next node."
use Rattle.std.specs.Prelude.{Bool, true, ◌&&◌, List, ◌++◌, ℕ, zero, suc, ◌-◌, replicate}
use Rattle.lists.specs.Lists.{pick, range, every}
use Rattle.scheme.specs.Words.{publics, nodes, node_second, is_new, is_call_node, branches_of, next, arguments_of}
use Rattle.scheme.specs.Owners.{held}
use Rattle.table.specs.Causes.{usable, is_branch_scoped}
use Rattle.scheme.specs.Spans.{tally_all}

module _ (w : List ℕ) where
  -- the names that may be used at a node, tallied
  unfoldable pub held_tally : ℕ → List ℕ
  held_tally n = tally_all (replicate 64 0) (range (publics w) ++ held w n)

  -- a node and all below it, at most f nodes deep
  unfoldable pub body_fuel : ℕ → ℕ → Bool
  body_fuel zero n = true
  body_fuel (suc f) n =
      pick (is_new w n) (body_fuel f (node_second w n))
      (pick (is_call_node w n) (every (usable w n) (arguments_of w n)) (every (λ b. is_branch_scoped w n b && body_fuel f (next w b)) (branches_of w n)))

  unfoldable pub body_scoped : ℕ → Bool
  body_scoped n = body_fuel (nodes w - n) n

  -- a branch of node n, and all below it
  abbrev pub branch_body_scoped : ℕ → ℕ → Bool
  branch_body_scoped n b = is_branch_scoped w n b && body_scoped (next w b)
