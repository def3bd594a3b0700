-- Causes 8 and 9: names are used where they are held, and a call stays in its thread and leaves its definition.
use mathlib.Core.Path.{◌≡◌}
use mathlib.Core.Bool.{true, false, not}
use mathlib.Core.List.{List}
use mathlib.Core.Logic.{◌⊎◌, inl, inr}
use Prim.Native.Nat.{ℕ, ◌<◌}
use borrow.Author.Tests.{ltb-true, not-true}
use Rattle.lists.specs.Lists.{pick, same, every, range, member}
use Rattle.lists.proofs.Tests.{and_both, or_cases, same_true, same_false}
use Rattle.lists.proofs.Ranges.{every-below, every-member}
use Rattle.scheme.specs.Words.{publics, threads, nodes, is_public, definition_thread, formal_count, entry, node_first, is_call_node, branches_of, branch_name}
use Rattle.scheme.specs.Words.{channel, is_silent, is_send, is_receive, arguments_of}
use Rattle.scheme.specs.Owners.{held, definition, thread}
use Rattle.table.specs.Causes.{is_scope_right, is_node_scoped, is_branch_scoped, usable, are_calls_right, is_entry_right, call_right_in, is_call_right}
use Rattle.table.proofs.Inside
use Rattle.table.proofs.Owned.{BranchOf, in-branches}

-- x is public, or held at node n
abbrev pub Usable : List ℕ → ℕ → ℕ → Type 0
Usable w n x = (x < publics w) ⊎ (member x (held w n) ≡ true)

may-use : (w : List ℕ) (n x : ℕ) → usable w n x ≡ true → Usable w n x
unfolding usable
may-use w n x h = go (or_cases (is_public w x) (member x (held w n)) h)
  where
    go : (is_public w x ≡ true) ⊎ (member x (held w n) ≡ true) → Usable w n x
    go (inl p) = inl (ltb-true x (publics w) p)
    go (inr m) = inr m

module _ (w : List ℕ) (h : is_scope_right w ≡ true) where
  node-scoped : (n : ℕ) → n < nodes w → is_node_scoped w n ≡ true
  unfolding is_scope_right
  node-scoped n l = every-below (is_node_scoped w) (nodes w) h n l

  pub argument-usable : (n x : ℕ) → n < nodes w → is_call_node w n ≡ true → member x (arguments_of w n) ≡ true → Usable w n x
  unfolding is_node_scoped
  argument-usable n x l k m = may-use w n x (every-member (usable w n) (arguments_of w n) (rw k at (node-scoped n l)) x m)

  branch-scoped : (n b : ℕ) → BranchOf w n b → is_branch_scoped w n b ≡ true
  unfolding is_node_scoped
  branch-scoped n b c =
      every-member (is_branch_scoped w n) (branches_of w n) (rw (Inside.choice-not-call w n c.choice) at (node-scoped n c.inside)) b
      (in-branches w n b c.choice c.low c.high)

  loud-scoped : (n b : ℕ) → BranchOf w n b → is_silent w b ≡ false
      → (usable w n (channel w b) ≡ true) × (pick (is_receive w b) true (usable w n (branch_name w b)) ≡ true)
  unfolding is_branch_scoped
  loud-scoped n b c k = and_both (usable w n (channel w b)) (pick (is_receive w b) true (usable w n (branch_name w b))) (rw k at (branch-scoped n b c))

  pub channel-usable : (n b : ℕ) → BranchOf w n b → is_silent w b ≡ false → Usable w n (channel w b)
  channel-usable n b c k = may-use w n (channel w b) (loud-scoped n b c k).0

  pub sent-usable : (n b : ℕ) → BranchOf w n b → is_send w b ≡ true → Usable w n (branch_name w b)
  sent-usable n b c k =
      may-use w n (branch_name w b) (rw (Inside.send-not-receive w b k) at (loud-scoped n b c (Inside.send-not-silent w b k)).1)

module _ (w : List ℕ) (h : are_calls_right w false ≡ true) where
  parts : (every (is_entry_right w) (range (threads w)) ≡ true) × (every (is_call_right w false) (range (nodes w)) ≡ true)
  unfolding are_calls_right
  parts = and_both (every (is_entry_right w) (range (threads w))) (every (is_call_right w false) (range (nodes w))) h

  pub entry-own : (t : ℕ) → t < threads w → (definition_thread w (entry w t) ≡ t) × (formal_count w (entry w t) ≡ 0)
  unfolding is_entry_right
  entry-own t l =
      let e =
      and_both (same (definition_thread w (entry w t)) t) (same (formal_count w (entry w t)) 0)
      (every-below (is_entry_right w) (threads w) parts.0 t l)
      in
      (same_true (definition_thread w (entry w t)) t e.0, same_true (formal_count w (entry w t)) 0 e.1)

  pub call-own : (n : ℕ) → n < nodes w → is_call_node w n ≡ true → (definition_thread w (node_first w n) ≡ thread w n) × (node_first w n ≡ definition w n → ⊥)
  unfolding is_call_right call_right_in
  call-own n l k =
      let e =
      and_both (same (definition_thread w (node_first w n)) (thread w n)) (not (same (node_first w n) (definition w n)))
      (rw k at (every-below (is_call_right w false) (nodes w) parts.1 n l))
      in (
        same_true (definition_thread w (node_first w n)) (thread w n) e.0,
        same_false (node_first w n) (definition w n) (not-true (same (node_first w n) (definition w n)) e.1),
      )
