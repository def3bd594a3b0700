-- Cause 6: each branch has one home, and each node one owner.
use mathlib.Core.Path.{◌≡◌, refl, sym, ◌∙◌}
use mathlib.Core.Bool.{true, false, ◌&&◌}
use mathlib.Core.List.{List, [], ◌∷◌, ◌++◌}
use mathlib.Core.Logic.{◌⊎◌, inl, inr}
use Prim.Native.Nat.{ℕ, ◌+◌, ◌≤◌, ◌<◌}
use native.Mathlib.Decide.{ℕ_discrete}
use native.Mathlib.Omega.{arith}
use lib.Dec.{ltb}
use borrow.Author.Tests.{lt-ltb, le-ltb, ltb-true}
use Rattle.lists.specs.Lists.{pick, same, every, range, member, times}
use Rattle.lists.proofs.Tests.{true-or-false, and_intro, and_both, all_hold, same_true, same-yes}
use Rattle.lists.proofs.Ranges.{every-below, every-member, member-from, from_member}
use Rattle.lists.proofs.Members.{member-nil}
use Rattle.lists.proofs.Counts.{times-append}
use Rattle.lists.proofs.First.{first-only, Search, hits, found, some-hit, hit-some, found_none, found_nowhere, found-one, tells-one, tells-some}
use Rattle.scheme.specs.Words.{definitions, nodes, branches, arguments, root, node_first, node_second, is_choice, is_new, branches_of, next}
use Rattle.scheme.specs.Owners.{root_of, child_of, next_of, nobody, home, owner, pick_owner}
pub use Rattle.table.specs.Inner.Shaped.{BranchOf}
use Rattle.table.specs.Causes.{are_ranges_right, is_shape_right, root_nodes, new_children, next_nodes, is_owned_once, are_children_above, consecutive}
use Rattle.scheme.specs.Words.{branch_count_of}
use Rattle.scheme.specs.Words.{argument_count_of}
use Rattle.table.proofs.Inside.{choice-not-new, root-inside, new-inside, next-inside}
use Rattle.table.proofs.Consecutive.{In, range_unique, range-covers}

module _ (w : List ℕ) where
  pub in-branches : (n b : ℕ) → is_choice w n ≡ true → node_first w n ≤ b → b < node_first w n + node_second w n → member b (branches_of w n) ≡ true
  unfolding branches_of
  in-branches n b c l u = rw c (member-from b (node_first w n) (node_second w n) l u)

  pub branches-in : (n b : ℕ) → n < nodes w → member b (branches_of w n) ≡ true → BranchOf w n b
  unfolding branches_of
  branches-in n b i m = go (true-or-false (is_choice w n))
    where
      go : (is_choice w n ≡ true) ⊎ (is_choice w n ≡ false) → BranchOf w n b
      go (inl c) = let r = from_member b (node_first w n) (node_second w n) (rw c at m) in record { inside = i; choice = c; low = r.0; high = r.1 }
      go (inr c) = member-nil b (rw c at m)

  -- ---- which of three a node's owner is

  pick-root : (d n b : ℕ) → d < definitions w → pick_owner w d n b ≡ root_of d
  unfolding pick_owner
  pick-root d n b l = rw (lt-ltb d (definitions w) l)

  pick-child : (d n b : ℕ) → definitions w ≤ d → n < nodes w → pick_owner w d n b ≡ child_of n
  unfolding pick_owner
  pick-child d n b h l = rw (le-ltb d (definitions w) h, lt-ltb n (nodes w) l)

  pick_next : (d n b : ℕ) → definitions w ≤ d → nodes w ≤ n → b < branches w → pick_owner w d n b ≡ next_of b
  unfolding pick_owner
  pick_next d n b h i l = rw (le-ltb d (definitions w) h, le-ltb n (nodes w) i, lt-ltb b (branches w) l)

  pick-nobody : (d n b : ℕ) → definitions w ≤ d → nodes w ≤ n → branches w ≤ b → pick_owner w d n b ≡ nobody
  unfolding pick_owner
  pick-nobody d n b h i l = rw (le-ltb d (definitions w) h, le-ltb n (nodes w) i, le-ltb b (branches w) l)

-- the definitions, News and branches that lead to node k
module _ (w : List ℕ) (k : ℕ) where
  abbrev root_search : Search k
  root_search = record { count = definitions w; lists = λ d. root w d ∷ []; test = λ d. same (root w d) k; tells = λ d. tells-one k (root w d) }

  abbrev new_search : Search k
  new_search = record {
    count = nodes w;
    lists = λ n. pick (is_new w n) (node_second w n ∷ []) [];
    test = λ n. is_new w n && same (node_second w n) k;
    tells = λ n. tells-some k (node_second w n) (is_new w n);
  }

  abbrev next_search : Search k
  next_search = record { count = branches w; lists = λ b. next w b ∷ []; test = λ b. same (next w b) k; tells = λ b. tells-one k (next w b) }

  owner-is : (d n b : ℕ) → found root_search ≡ d → found new_search ≡ n → found next_search ≡ b → owner w k ≡ pick_owner w d n b
  unfolding owner
  owner-is d n b e f g = rw (e, f, g)

-- what leads to node k
pub data Leads (w : List ℕ) (k : ℕ) : Type 0 where
  by-root : (d : ℕ) → d < definitions w → root w d ≡ k → Leads w k
  by-new : (n : ℕ) → n < nodes w → is_new w n ≡ true → node_second w n ≡ k → Leads w k
  by-branch : (b : ℕ) → b < branches w → next w b ≡ k → Leads w k

record Shape (w : List ℕ) : Type 0 where
  branch_ranges : consecutive w (node_first w) (branch_count_of w) (branches w) 0 (range (nodes w)) ≡ true
  argument_ranges : consecutive w (node_second w) (argument_count_of w) (arguments w) 0 (range (nodes w)) ≡ true
  owned_test : (k : ℕ) → k < nodes w → is_owned_once w k ≡ true
  above_test : (n : ℕ) → n < nodes w → are_children_above w n ≡ true

tests : (w : List ℕ) → is_shape_right w ≡ true → Shape w
unfolding is_shape_right
tests w h =
    let t =
    all_hold (consecutive w (node_first w) (branch_count_of w) (branches w) 0 (range (nodes w)))
    (consecutive w (node_second w) (argument_count_of w) (arguments w) 0 (range (nodes w)) ∷ every (is_owned_once w) (range (nodes w)) ∷
    every (are_children_above w) (range (nodes w)) ∷ []) h
    in
    record {
      branch_ranges = t.0;
      argument_ranges = t.1.0;
      owned_test = every-below (is_owned_once w) (nodes w) t.1.1.0;
      above_test = every-below (are_children_above w) (nodes w) t.1.1.1;
    }

module _ (w : List ℕ) (h : is_shape_right w ≡ true) where
  -- ---- a child lies above its parent

  pub child-above : (n : ℕ) → n < nodes w → is_new w n ≡ true → n < node_second w n
  unfolding are_children_above
  child-above n l k = ltb-true n (node_second w n) (rw k at ((tests w h).above_test n l))

  pub next-above : (n b : ℕ) → BranchOf w n b → n < next w b
  unfolding are_children_above
  next-above n b c =
      ltb-true n (next w b)
      (every-member (λ b. ltb n (next w b)) (branches_of w n) (rw (choice-not-new w n c.choice) at ((tests w h).above_test n c.inside)) b
      (in-branches w n b c.choice c.low c.high))

  -- ---- each branch has one home

  branch-range : (n b : ℕ) → BranchOf w n b → In w (node_first w) (branch_count_of w) (branches w) b n
  branch-range n b c = (c.low, rw c.choice c.high)

  pub branch-unique : (m n b : ℕ) → BranchOf w m b → BranchOf w n b → m ≡ n
  branch-unique m n b c d =
      range_unique w (node_first w) (branch_count_of w) (branches w) 0 (range (nodes w)) (tests w h).branch_ranges b m n
      (member-from m 0 (nodes w) (omega arith) (omega (arith, c.inside))) (member-from n 0 (nodes w) (omega arith) (omega (arith, d.inside)))
      (branch-range m b c) (branch-range n b d)

  pub home-is : (n b : ℕ) → BranchOf w n b → home w b ≡ n
  unfolding home
  home-is n b c =
      first-only (λ n. member b (branches_of w n)) 0 (nodes w) 0 n (omega arith) (omega (arith, c.inside)) (in-branches w n b c.choice c.low c.high)
      (λ j l u m. branch-unique j n b (branches-in w j b (omega arith) m) c)

  some-home : (b : ℕ) → b < branches w → (n : ℕ) × BranchOf w n b
  some-home b l =
      let s = range-covers w (node_first w) (branch_count_of w) (branches w) 0 (range (nodes w)) (tests w h).branch_ranges b (omega arith) l in
      (s.source, go s.source (omega (arith, from_member s.source 0 (nodes w) s.stands)) s.gives (true-or-false (is_choice w s.source)))
    where
      go : (n : ℕ) → n < nodes w → In w (node_first w) (branch_count_of w) (branches w) b n → (is_choice w n ≡ true) ⊎ (is_choice w n ≡ false) → BranchOf w n b
      go n i r (inl c) = record { inside = i; choice = c; low = r.0; high = rw c at r.1 }
      go n i r (inr c) = let u : b < node_first w n + 0 = rw c at r.1 in absurd (omega (arith, r.0))

  pub home-has : (b : ℕ) → b < branches w → BranchOf w (home w b) b
  home-has b l = let s = some-home b l in rw (home-is s.0 b s.1) s.1

  -- ---- each node has one owner

  -- a node stands once among the roots and children
  pub owned-once : (k : ℕ) → k < nodes w → times k (root_nodes w ++ (new_children w ++ next_nodes w)) ≡ 1
  unfolding is_owned_once
  owned-once k l = same_true (times k (root_nodes w ++ (new_children w ++ next_nodes w))) 1 ((tests w h).owned_test k l)

  once : (k : ℕ) → k < nodes w → hits (root_search w k) + (hits (new_search w k) + hits (next_search w k)) ≡ 1
  unfolding root_nodes new_children next_nodes
  once k l = sym (times-append k (root_nodes w) (new_children w ++ next_nodes w) ∙ rw (times-append k (new_children w) (next_nodes w))) ∙ owned-once k l

  pub owner-root : (k d : ℕ) → k < nodes w → d < definitions w → root w d ≡ k → owner w k ≡ root_of d
  owner-root k d i l e =
      owner-is w k d (found (new_search w k)) (found (next_search w k))
      (found-one (root_search w k) d (omega (arith, once k i)) l (same-yes (root w d) k e)) refl refl ∙
      pick-root w d (found (new_search w k)) (found (next_search w k)) l

  pub owner-child : (k n : ℕ) → k < nodes w → n < nodes w → is_new w n ≡ true → node_second w n ≡ k → owner w k ≡ child_of n
  owner-child k n i l c e =
      owner-is w k (definitions w) n (found (next_search w k)) (found_none (root_search w k) (omega (arith, once k i, some)))
      (found-one (new_search w k) n (omega (arith, once k i)) l test) refl ∙
      pick-child w (definitions w) n (found (next_search w k)) (omega arith) l
    where
      test : (is_new w n && same (node_second w n) k) ≡ true
      test = and_intro (is_new w n) (same (node_second w n) k) c (same-yes (node_second w n) k e)

      some : 1 ≤ hits (new_search w k)
      some = some-hit (new_search w k) n l test

  pub owner-next : (k b : ℕ) → k < nodes w → b < branches w → next w b ≡ k → owner w k ≡ next_of b
  owner-next k b i l e =
      owner-is w k (definitions w) (nodes w) b (found_none (root_search w k) (omega (arith, once k i, some)))
      (found_none (new_search w k) (omega (arith, once k i, some))) (found-one (next_search w k) b (omega (arith, once k i)) l test) ∙
      pick_next w (definitions w) (nodes w) b (omega arith) (omega arith) l
    where
      test : same (next w b) k ≡ true
      test = same-yes (next w b) k e

      some : 1 ≤ hits (next_search w k)
      some = some-hit (next_search w k) b l test

  pub leads : (k : ℕ) → k < nodes w → Leads w k
  leads k i = go (ℕ_discrete (hits (root_search w k)) 0) (ℕ_discrete (hits (new_search w k)) 0)
    where
      root-leads : 1 ≤ hits (root_search w k) → Leads w k
      root-leads e = let s = hit-some (root_search w k) e in by-root s.0 s.1 (same_true (root w s.0) k s.2)

      new-leads : 1 ≤ hits (new_search w k) → Leads w k
      new-leads e =
          let s = hit-some (new_search w k) e in
          let t = and_both (is_new w s.0) (same (node_second w s.0) k) s.2 in
          by-new s.0 s.1 t.0 (same_true (node_second w s.0) k t.1)

      next-leads : 1 ≤ hits (next_search w k) → Leads w k
      next-leads e = let s = hit-some (next_search w k) e in by-branch s.0 s.1 (same_true (next w s.0) k s.2)

      go : Dec (hits (root_search w k) ≡ 0) → Dec (hits (new_search w k) ≡ 0) → Leads w k
      go (no d) e = root-leads (omega arith)
      go (yes d) (no e) = new-leads (omega arith)
      go (yes d) (yes e) = next-leads (omega (arith, once k i))

-- past the nodes nobody owns anything
pub owner-nobody : (w : List ℕ) → are_ranges_right w ≡ true → (k : ℕ) → nodes w ≤ k → owner w k ≡ nobody
owner-nobody w r k l =
    owner-is w k (definitions w) (nodes w) (branches w)
    (found_nowhere (root_search w k) (λ d i e. omega (arith, l, root-inside w r d i, same_true (root w d) k e)))
    (found_nowhere (new_search w k) child)
    (found_nowhere (next_search w k) (λ b i e. omega (arith, l, next-inside w r b i, same_true (next w b) k e))) ∙
    pick-nobody w (definitions w) (nodes w) (branches w) (omega arith) (omega arith) (omega arith)
  where
    child : (n : ℕ) → n < nodes w → (is_new w n && same (node_second w n) k) ≡ true → ⊥
    child n i e =
        let t = and_both (is_new w n) (same (node_second w n) k) e in
        omega (arith, l, (new-inside w r n i t.0).1, same_true (node_second w n) k t.1)
