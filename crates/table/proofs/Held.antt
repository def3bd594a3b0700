-- The names that a node holds are bound above it in its own definition, once each.
use mathlib.Core.Path.{◌≡◌, sym, ◌∙◌}
use mathlib.Core.Bool.{true, false}
use mathlib.Core.List.{List, ◌++◌, append-nil}
use mathlib.Core.Logic.{◌⊎◌, inl, inr}
use Prim.Native.Nat.{ℕ, ◌≤◌, ◌<◌}
use native.Mathlib.Decide.{dec_lt}
use native.Mathlib.Omega.{arith}
use Rattle.lists.specs.Lists.{member, Distinct, none}
use Rattle.lists.proofs.Tests.{true-or-false, not-true-false}
use Rattle.lists.proofs.Members.{member-nil, one-member, append-member, snoc-member, distinct_snoc, distinct_from}
use Rattle.scheme.specs.Words.{publics, definitions, nodes, branches, names, root, formals, node_first, node_second, is_new, branch_name, next, is_receive}
use Rattle.scheme.specs.Owners.{home, held, definition, thread, binds_of}
use Rattle.table.specs.Causes.{are_ranges_right, is_shape_right, is_binding_right}
use Rattle.scheme.specs.Scheme.{Binder, by_new, by_receive, by_formal, unbound, binder_of, binder_thread}
use Rattle.table.proofs.Owned
use Rattle.table.proofs.Owned.{BranchOf}
use Rattle.table.proofs.Trees
use Rattle.table.proofs.Binders

-- what binds a name stands above node k, in its definition
abbrev pub Above : List ℕ → ℕ → Binder → Type 0
Above w k (by_new j) = (j < k) × (definition w j ≡ definition w k)
Above w k (by_receive b) = (home w b < k) × (definition w (home w b) ≡ definition w k)
Above w k (by_formal d) = definition w k ≡ d
Above w k unbound = ⊥

-- and then above every node below k in the same definition
above-up : (w : List ℕ) (k j : ℕ) → j < k → definition w k ≡ definition w j → (b : Binder) → Above w j b → Above w k b
above-up w k j l e (by_new i) a = (omega (arith, a.0), a.1 ∙ sym e)
above-up w k j l e (by_receive b) a = (omega (arith, a.0), a.1 ∙ sym e)
above-up w k j l e (by_formal d) a = e ∙ a
above-up w k j l e unbound a = a

above-thread : (w : List ℕ) (k : ℕ) (b : Binder) → Above w k b → binder_thread w b ≡ thread w k
above-thread w k (by_new j) a = rw a.1
above-thread w k (by_receive b) a = rw a.1
above-thread w k (by_formal d) a = rw a
above-thread w k unbound a = absurd a

-- what a branch binds
binds-cases : (w : List ℕ) (b x : ℕ) → member x (binds_of w b) ≡ true → (is_receive w b ≡ true) × (x ≡ branch_name w b)
binds-cases w b x m = go (true-or-false (is_receive w b))
  where
    go : (is_receive w b ≡ true) ⊎ (is_receive w b ≡ false) → (is_receive w b ≡ true) × (x ≡ branch_name w b)
    go (inl k) = (k, one-member x (branch_name w b) (rw k at m))
    go (inr k) = member-nil x (rw k at m)

module _ (w : List ℕ) (r : are_ranges_right w ≡ true) (s : is_shape_right w ≡ true) (h : is_binding_right w ≡ true) where
  -- ---- held names are bound above

  AllAbove : ℕ → Type 0
  AllAbove k = (x : ℕ) → member x (held w k) ≡ true → Above w k (binder_of w x)

  root-above : (d : ℕ) → d < definitions w → AllAbove (root w d)
  unfolding AllAbove
  root-above d l x m = rw (Binders.binder-formal w r h d x l (rw (Trees.root-held w r s d l) at m)) (Trees.root-definition w r s d l)

  new-above : (n : ℕ) → n < nodes w → is_new w n ≡ true → AllAbove n → AllAbove (node_second w n)
  unfolding AllAbove
  new-above n l k ih x m = go (snoc-member x (node_first w n) (held w n) (rw (Trees.new-held w r s n l k) at m))
    where
      go : (member x (held w n) ≡ true) ⊎ (x ≡ node_first w n) → Above w (node_second w n) (binder_of w x)
      go (inl q) = above-up w (node_second w n) n (Owned.child-above w s n l k) (Trees.new-definition w r s n l k) (binder_of w x) (ih x q)
      go (inr e) = rw (e, Binders.binder-new w r h n l k) (Owned.child-above w s n l k, sym (Trees.new-definition w r s n l k))

  next-above : (n b : ℕ) → BranchOf w n b → AllAbove n → AllAbove (next w b)
  unfolding AllAbove
  next-above n b c ih x m = go (append-member x (held w n) (binds_of w b) (rw (Trees.next-held w r s n b c) at m))
    where
      go : (member x (held w n) ≡ true) ⊎ (member x (binds_of w b) ≡ true) → Above w (next w b) (binder_of w x)
      go (inl q) = above-up w (next w b) n (Owned.next-above w s n b c) (Trees.next-definition w r s n b c) (binder_of w x) (ih x q)
      go (inr q) =
          let e = binds-cases w b x q in
          rw (e.1, Binders.binder-receive w r h b (Trees.branch-inside w r s n b c) e.0, Owned.home-is w s n b c)
          (Owned.next-above w s n b c, sym (Trees.next-definition w r s n b c))

  pub above : (k x : ℕ) → member x (held w k) ≡ true → Above w k (binder_of w x)
  unfolding AllAbove
  above k x m = go (dec_lt k (nodes w))
    where
      go : Dec (k < nodes w) → Above w k (binder_of w x)
      go (yes l) = Trees.every-node w r s AllAbove root-above new-above next-above k l x m
      go (no d) = member-nil x (rw (Trees.outside-held w r s k (omega arith)) at m)

  pub held-thread : (k x : ℕ) → member x (held w k) ≡ true → binder_thread w (binder_of w x) ≡ thread w k
  held-thread k x m = above-thread w k (binder_of w x) (above k x m)

  pub held-bound : (k x : ℕ) → member x (held w k) ≡ true → (publics w ≤ x) × (x < names w)
  held-bound k x m = go (dec_lt x (publics w)) (dec_lt x (names w))
    where
      out : (x < publics w) ⊎ (names w ≤ x) → ⊥
      out o = rw (Binders.outside-unbound w r h x o) at (above k x m)

      go : Dec (x < publics w) → Dec (x < names w) → (publics w ≤ x) × (x < names w)
      go (yes l) u = absurd (out (inl l))
      go (no l) (yes u) = omega arith
      go (no l) (no u) = absurd (out (inr (omega arith)))

  -- ---- what a node binds, and the formals of another definition, it does not hold

  pub new-fresh : (n : ℕ) → n < nodes w → is_new w n ≡ true → member (node_first w n) (held w n) ≡ false
  new-fresh n l k =
      not-true-false (member (node_first w n) (held w n))
      (λ m.
      let a : Above w n (by_new n) = rw (Binders.binder-new w r h n l k) at (above n (node_first w n) m) in
      omega (arith, a.0))

  pub receive-fresh : (b : ℕ) → b < branches w → is_receive w b ≡ true → member (branch_name w b) (held w (home w b)) ≡ false
  receive-fresh b l k =
      not-true-false (member (branch_name w b) (held w (home w b)))
      (λ m.
      let a : Above w (home w b) (by_receive b) = rw (Binders.binder-receive w r h b l k) at (above (home w b) (branch_name w b) m) in
      omega (arith, a.0))

  pub call-fresh : (n d x : ℕ) → d < definitions w → (definition w n ≡ d → ⊥) → member x (formals w d) ≡ true → member x (held w n) ≡ false
  call-fresh n d x l e f =
      not-true-false (member x (held w n)) (λ m. e (rw (Binders.binder-formal w r h d x l f) at (above n x m)))

  -- ---- no name twice

  pub formals-distinct : (d : ℕ) → Distinct (formals w d)
  unfolding formals
  formals-distinct d = distinct_from (Rattle.scheme.specs.Words.first_formal w d) (Rattle.scheme.specs.Words.formal_count w d)

  next-distinct : (n b : ℕ) → BranchOf w n b → Distinct (held w n) → Distinct (held w n ++ binds_of w b)
  next-distinct n b c d = go (true-or-false (is_receive w b))
    where
      go : (is_receive w b ≡ true) ⊎ (is_receive w b ≡ false) → Distinct (held w n ++ binds_of w b)
      go (inl k) =
          rw k (distinct_snoc (branch_name w b) (held w n) d (rw (Owned.home-is w s n b c) at (receive-fresh b (Trees.branch-inside w r s n b c) k)))
      go (inr k) = rw (k, append-nil (held w n)) d

  pub held-distinct : (k : ℕ) → Distinct (held w k)
  held-distinct k = go (dec_lt k (nodes w))
    where
      go : Dec (k < nodes w) → Distinct (held w k)
      go (no d) = rw (Trees.outside-held w r s k (omega arith)) none
      go (yes l) =
          Trees.every-node w r s (λ k. Distinct (held w k)) (λ d i. rw (Trees.root-held w r s d i) (formals-distinct d))
          (λ n i e d. rw (Trees.new-held w r s n i e) (distinct_snoc (node_first w n) (held w n) d (new-fresh n i e)))
          (λ n b c d. rw (Trees.next-held w r s n b c) (next-distinct n b c d)) k l

  -- ---- a node's definition is one

  pub definition-inside : 1 ≤ definitions w → (n : ℕ) → definition w n < definitions w
  definition-inside e n = go (dec_lt n (nodes w))
    where
      go : Dec (n < nodes w) → definition w n < definitions w
      go (no d) = rw (Trees.outside-definition w r s n (omega arith)) e
      go (yes l) =
          Trees.every-node w r s (λ n. definition w n < definitions w) (λ d i. rw (Trees.root-definition w r s d i) i)
          (λ m i k d. rw (Trees.new-definition w r s m i k) d) (λ m b c d. rw (Trees.next-definition w r s m b c) d) n l
