-- Cause 6 passes the rewritten table: ranges follow one another, every node has one owner, which lies below.
use mathlib.Core.Path.{◌≡◌, sym, ap, ◌∙◌}
use mathlib.Core.Bool.{true, false, ◌&&◌}
use mathlib.Core.List.{List, [], ◌∷◌, ◌++◌, map}
use mathlib.Core.Logic.{◌⊎◌, inl, inr}
use Prim.Native.Nat.{ℕ, ◌+◌, ◌-◌, ◌≤◌, ◌<◌}
use native.Mathlib.Omega.{arith}
use lib.Dec.{ltb}
use lib.ListN.{length}
use borrow.Author.Tests.{lt-ltb}
use Rattle.lists.specs.Lists.{pick, same, from, range, every, flat, member, Distinct}
use Rattle.lists.proofs.Tests.{true-or-false, not-true-false, and_intro, and_left, same-yes, same_true}
use Rattle.lists.proofs.Ranges.{from_member, below-every}
use Rattle.scheme.specs.Words.{definitions, nodes, branches, arguments, root, node_first, node_second, is_choice, is_new, is_call_node, branches_of, next, branch_count_of}
use Rattle.scheme.specs.Words.{argument_count_of}
use Rattle.scheme.specs.Owners.{home, definition}
use Rattle.table.specs.Causes.{consecutive}
use Rattle.table.specs.Inner.Shaped.{BranchOf}
use Rattle.table.proofs.Inside
use Rattle.table.proofs.Owned
use Rattle.process.specs.StateWords.{place}
use Rattle.rewriting.specs.Rewriting.{is_self_calling, copied, caller, appended, node_copies, branch_copies, argument_copies, branch_definition}
use Rattle.rewriting.specs.Rewriting.{argument_definition, copy_node_of, copy_branch_of, rewritten}
use Rattle.rewriting.proofs.Appended.{NewNumber, old, copy, copy-one}
use Rattle.rewriting.proofs.Reading
use Rattle.rewriting.proofs.Family
use Rattle.rewriting.proofs.Family.{Sound, copied-distinct, nodes-distinct, branches-distinct, arguments-distinct, node_of}
use Rattle.rewriting.proofs.Fields
use Rattle.rewriting.proofs.Insides
use Rattle.rewriting.proofs.Spans
use Rattle.rewriting.proofs.Appended.{flat-flat, flat-copies, keep-flat, group, count-group, count-keep, times-map, times-map-none}
use Rattle.rewriting.proofs.Runs.{span_of, consecutive-flat, consecutive-append, consecutive-same, consecutive-copies}
use Rattle.lists.specs.Lists.{times, keep}
use Rattle.lists.proofs.Counts.{times-append, times_none}
use Rattle.lists.proofs.Members.{member-nil, one-member, flat-member, flat-same, member-keep, map-member}
use Rattle.table.specs.Causes.{is_shape_right, root_nodes, new_children, next_nodes, is_owned_once, are_children_above}
use Rattle.table.proofs.Trees

module _ (w : List ℕ) (p : Sound w) where
  -- ---- ranges

  branch-home : (n b : ℕ) → n < nodes w → member b (from (node_first w n) (branch_count_of w n)) ≡ true → BranchOf w n b
  branch-home n b l m = go (true-or-false (is_choice w n))
    where
      i : (node_first w n ≤ b) × (b < node_first w n + branch_count_of w n)
      i = from_member b (node_first w n) (branch_count_of w n) m

      go : (is_choice w n ≡ true) ⊎ (is_choice w n ≡ false) → BranchOf w n b
      go (inl k) = record { inside = l; choice = k; low = i.0; high = rw k at i.1 }
      go (inr k) = let z : b < node_first w n + 0 = rw k at i.1 in absurd (omega (arith, i.0))

  argument-call : (n a : ℕ) → n < nodes w → member a (from (node_second w n) (argument_count_of w n)) ≡ true → caller w a ≡ n
  argument-call n a l m = go (true-or-false (is_call_node w n))
    where
      i : (node_second w n ≤ a) × (a < node_second w n + argument_count_of w n)
      i = from_member a (node_second w n) (argument_count_of w n) m

      go : (is_call_node w n ≡ true) ⊎ (is_call_node w n ≡ false) → caller w a ≡ n
      go (inl k) = Family.caller-is w p n a l k i.0 i.1
      go (inr k) = let z : a < node_second w n + 0 = rw k at i.1 in absurd (omega (arith, i.0))

  -- the numbers of a section come node by node, and so do those copied
  module _ (first size of : ℕ → ℕ) (end : ℕ) (h : consecutive w first size end 0 (range (nodes w)) ≡ true)
      (g : (n b : ℕ) → n < nodes w → member b (from (first n) (size n)) ≡ true → of b ≡ definition w n) where
    by-node : range end ≡ flat (span_of w first size) (range (nodes w))
    by-node = let z : end - 0 ≡ end = omega arith in sym ((consecutive-flat w first size end 0 (range (nodes w)) h).1 ∙ rw z)

    copies-by-node : flat (group of (range end)) (copied w) ≡ flat (span_of [] first size) (flat (group (definition w) (range (nodes w))) (copied w))
    copies-by-node =
        flat-same (group of (range end)) (λ d. flat (span_of [] first size) (group (definition w) (range (nodes w)) d)) (copied w)
        (λ d m.
        ap (keep (λ i. same (of i) d)) by-node
        ∙ keep-flat (λ i. same (of i) d) (λ n. same (definition w n) d) (span_of w first size) (range (nodes w))
        (λ n b k q. ap (λ (e : ℕ). same e d) (g n b (omega (arith, from_member n 0 (nodes w) k)) q)))
        ∙ sym (flat-flat (span_of [] first size) (group (definition w) (range (nodes w))) (copied w))

  pub branch-spans : branch_copies w ≡ flat (span_of [] (node_first w) (branch_count_of w)) (node_copies w)
  unfolding appended
  branch-spans =
      copies-by-node (node_first w) (branch_count_of w) (branch_definition w) (branches w) (Family.shape-tests w p).0
      (λ n b l m. ap (definition w) (Owned.home-is w p.shape n b (branch-home n b l m)))

  pub argument-spans : argument_copies w ≡ flat (span_of [] (node_second w) (argument_count_of w)) (node_copies w)
  unfolding appended
  argument-spans =
      copies-by-node (node_second w) (argument_count_of w) (argument_definition w) (arguments w) (Family.shape-tests w p).1
      (λ n a l m. ap (definition w) (argument-call n a l m))

  ranged : (first size first' size' : ℕ → ℕ) (end : ℕ) (all : List ℕ) → Distinct all
      → consecutive w first size end 0 (range (nodes w)) ≡ true
      → all ≡ flat (span_of [] first size) (node_copies w)
      → ((n : ℕ) → n < nodes w → size' n ≡ size n)
      → ((n : ℕ) → n < nodes w → (size n ≡ 0 → ⊥) → first' n ≡ first n)
      → ((n : ℕ) → member n (node_copies w) ≡ true → size' (copy_node_of w n) ≡ size n)
      → ((n : ℕ) → member n (node_copies w) ≡ true → (size n ≡ 0 → ⊥) → first' (copy_node_of w n) ≡ end + place (first n) all)
      → consecutive (rewritten w) first' size' (end + length all) 0 (range (nodes (rewritten w))) ≡ true
  ranged first size first' size' end all d h e so fo sc fc =
      let z : end + length {A = ℕ} [] ≡ end = omega arith in
      rw (Spans.all-nodes w p)
      (consecutive-append (rewritten w) first' size' end (end + length all) 0 (range (nodes w)) (map (copy_node_of w) (node_copies w))
      (consecutive-same w (rewritten w) first size first' size' end 0 (range (nodes w)) (λ n m. so n (omega (arith, from_member n 0 (nodes w) m)))
      (λ n m. fo n (omega (arith, from_member n 0 (nodes w) m))) h)
      ∙ (rw z at (consecutive-copies (rewritten w) first size first' size' (copy_node_of w) end all d [] (node_copies w) e sc fc)))

  branch-ranges : consecutive (rewritten w) (node_first (rewritten w)) (branch_count_of (rewritten w)) (branches (rewritten w)) 0 (range (nodes (rewritten w)))
      ≡ true
  branch-ranges =
      rw (Reading.branches-new w)
      (ranged (node_first w) (branch_count_of w) (node_first (rewritten w)) (branch_count_of (rewritten w)) (branches w) (branch_copies w) (branches-distinct w)
      (Family.shape-tests w p).0 branch-spans (Fields.branch-count-old w p)
      (λ n l z. Insides.first w p n l (same_true _ _ (choice n z)) (λ q. omega arith))
      (Fields.branch-count-copy w p) (λ n m z. Fields.choice-copy w p n m (choice n z)))
    where
      choice : (n : ℕ) → (branch_count_of w n ≡ 0 → ⊥) → is_choice w n ≡ true
      choice n z = Rattle.lists.proofs.Tests.not-false-true (is_choice w n) (λ k. z (rw k))

  argument-ranges : consecutive (rewritten w) (node_second (rewritten w)) (argument_count_of (rewritten w)) (arguments (rewritten w)) 0
      (range (nodes (rewritten w))) ≡ true
  argument-ranges =
      rw (Reading.arguments-new w)
      (ranged (node_second w) (argument_count_of w) (node_second (rewritten w)) (argument_count_of (rewritten w)) (arguments w) (argument_copies w) (arguments-distinct w)
      (Family.shape-tests w p).1 argument-spans (Fields.argument-count-old w p) (λ n l z. Reading.node_second-old w n l)
      (Fields.argument-count-copy w p) (λ n m z. Fields.arguments-copy w p n m (Inside.call-not-new w n (caller' n z)) z))
    where
      caller' : (n : ℕ) → (argument_count_of w n ≡ 0 → ⊥) → is_call_node w n ≡ true
      caller' n z = Rattle.lists.proofs.Tests.not-false-true (is_call_node w n) (λ k. z (rw k))

  -- ---- owners

  abbrev root_at : ℕ → List ℕ
  root_at d = root w d ∷ []

  abbrev child_at : ℕ → List ℕ
  child_at n = pick (is_new w n) (node_second w n ∷ []) []

  abbrev next_at : ℕ → List ℕ
  next_at b = next w b ∷ []

  roots-new : root_nodes (rewritten w) ≡ root_nodes w ++ map (copy_node_of w) (flat root_at (copied w))
  unfolding root_nodes
  roots-new =
      rw (Reading.definitions-new w)
      (flat-copies (definitions w) (copied w) (copied-distinct w) root_at (λ d. root (rewritten w) d ∷ []) (copy_node_of w)
      (λ d l. rw (Reading.root-old w d l)) (λ d m. rw (Reading.root-copy w d m)))

  children-new : new_children (rewritten w) ≡ new_children w ++ map (copy_node_of w) (flat child_at (node_copies w))
  unfolding new_children
  children-new =
      rw (Reading.nodes-new w)
      (flat-copies (nodes w) (node_copies w) (nodes-distinct w) child_at (λ n. pick (is_new (rewritten w) n) (node_second (rewritten w) n ∷ []) []) (copy_node_of w)
      (λ n l. rw (Reading.node_kind-old w n l, Reading.node_second-old w n l)) (λ n m. rw (Reading.node_kind-copy w n m) (go n m (true-or-false (is_new w n)))))
    where
      go : (n : ℕ) → member n (node_copies w) ≡ true → (is_new w n ≡ true) ⊎ (is_new w n ≡ false)
          → pick (is_new w n) (node_second (rewritten w) (copy_node_of w n) ∷ []) [] ≡ map (copy_node_of w) (pick (is_new w n) (node_second w n ∷ []) [])
      go n m (inl k) = rw (k, Fields.child-copy w p n m k)
      go n m (inr k) = rw k

  nexts-new : next_nodes (rewritten w) ≡ next_nodes w ++ map (copy_node_of w) (flat next_at (branch_copies w))
  unfolding next_nodes
  nexts-new =
      rw (Reading.branches-new w)
      (flat-copies (branches w) (branch_copies w) (branches-distinct w) next_at (λ b. next (rewritten w) b ∷ []) (copy_node_of w)
      (λ b l. rw (Reading.next-old w b l)) (λ b m. rw (Reading.next-copy w b m)))

  -- what stands in such a list
  child-in : (n k : ℕ) → member k (child_at n) ≡ true → (is_new w n ≡ true) × (k ≡ node_second w n)
  child-in n k m = go (true-or-false (is_new w n))
    where
      go : (is_new w n ≡ true) ⊎ (is_new w n ≡ false) → (is_new w n ≡ true) × (k ≡ node_second w n)
      go (inl e) = (e, one-member k (node_second w n) (rw e at m))
      go (inr e) = member-nil k (rw e at m)

  -- a list of old nodes, then copies of nodes
  module _ (f : ℕ → List ℕ) (all some : List ℕ) (inside : (k : ℕ) → member k all ≡ true → k < nodes w)
      (copied-in : (k : ℕ) → member k some ≡ true → member k (node_copies w) ≡ true) where
    count-old : (k : ℕ) → k < nodes w → times k (all ++ map (copy_node_of w) some) ≡ times k all
    count-old k l =
        times-append k all (map (copy_node_of w) some)
        ∙ omega (arith, times-map-none (copy_node_of w) k some (λ y m e. omega arith))

    count-copy : (k : ℕ) → member k (node_copies w) ≡ true → times (copy_node_of w k) (all ++ map (copy_node_of w) some) ≡ times k some
    count-copy k m =
        times-append (copy_node_of w k) all (map (copy_node_of w) some)
        ∙ omega (
          arith,
          times_none (copy_node_of w k) all (not-true-false (member (copy_node_of w k) all) (λ q. omega (arith, inside (copy_node_of w k) q))),
          times-map (copy_node_of w) k some (λ y q e. copy-one (nodes w) (node_copies w) (nodes-distinct w) k y m (copied-in y q) e),
        )

  roots-inside : (k : ℕ) → member k (root_nodes w) ≡ true → k < nodes w
  unfolding root_nodes
  roots-inside k m =
      let s = flat-member root_at k (range (definitions w)) m in
      rw (one-member k (root w s.source) s.gives)
      (Inside.root-inside w p.ranges s.source (omega (arith, from_member s.source 0 (definitions w) s.stands)))

  children-inside : (k : ℕ) → member k (new_children w) ≡ true → k < nodes w
  unfolding new_children
  children-inside k m =
      let s = flat-member child_at k (range (nodes w)) m in
      let t = child-in s.source k s.gives in
      rw t.1 (Inside.new-inside w p.ranges s.source (omega (arith, from_member s.source 0 (nodes w) s.stands)) t.0).1

  nexts-inside : (k : ℕ) → member k (next_nodes w) ≡ true → k < nodes w
  unfolding next_nodes
  nexts-inside k m =
      let s = flat-member next_at k (range (branches w)) m in
      rw (one-member k (next w s.source) s.gives)
      (Inside.next-inside w p.ranges s.source (omega (arith, from_member s.source 0 (branches w) s.stands)))

  roots-copied : (k : ℕ) → member k (flat root_at (copied w)) ≡ true → member k (node_copies w) ≡ true
  roots-copied k m =
      let s = flat-member root_at k (copied w) m in
      rw (one-member k (root w s.source) s.gives) (Family.root-copied w p s.source s.stands)

  children-copied : (k : ℕ) → member k (flat child_at (node_copies w)) ≡ true → member k (node_copies w) ≡ true
  children-copied k m =
      let s = flat-member child_at k (node_copies w) m in
      let t = child-in s.source k s.gives in
      rw t.1 (Family.child-copied w p s.source s.stands t.0)

  nexts-copied : (k : ℕ) → member k (flat next_at (branch_copies w)) ≡ true → member k (node_copies w) ≡ true
  nexts-copied k m =
      let s = flat-member next_at k (branch_copies w) m in
      rw (one-member k (next w s.source) s.gives) (Family.next-copied w p s.source s.stands)

  -- a copied node is counted among the copies as it is among the originals
  count-roots : (k : ℕ) → member k (node_copies w) ≡ true → times k (flat root_at (copied w)) ≡ times k (root_nodes w)
  unfolding root_nodes copied
  count-roots k m =
      count-keep (λ d. Rattle.lists.specs.Lists.some (λ n. is_self_calling w n && same (definition w n) d) (range (nodes w))) root_at k (range (definitions w))
      (λ d i q.
      let l : d < definitions w = omega (arith, from_member d 0 (definitions w) i) in
      let e : definition w k ≡ d = ap (definition w) (one-member k (root w d) q) ∙ Trees.root-definition w p.ranges p.shape d l in
      let c : member d (copied w) ≡ true = rw e at (node_of w k m).1 in
      and_left (Rattle.lists.specs.Lists.some (λ n. is_self_calling w n && same (definition w n) d) (range (nodes w))) (member d (range (definitions w)))
      (sym (member-keep (λ d. Rattle.lists.specs.Lists.some (λ n. is_self_calling w n && same (definition w n) d) (range (nodes w))) d (range (definitions w)))
      ∙ c))

  count-children : (k : ℕ) → member k (node_copies w) ≡ true → times k (flat child_at (node_copies w)) ≡ times k (new_children w)
  unfolding new_children appended
  count-children k m =
      count-group (definition w) (range (nodes w)) child_at k (definition w k)
      (λ n i q.
      let t = child-in n k q in
      sym (ap (definition w) t.1 ∙ Trees.new-definition w p.ranges p.shape n (omega (arith, from_member n 0 (nodes w) i)) t.0))
      (copied w) (copied-distinct w) (node_of w k m).1

  count-nexts : (k : ℕ) → member k (node_copies w) ≡ true → times k (flat next_at (branch_copies w)) ≡ times k (next_nodes w)
  unfolding next_nodes appended
  count-nexts k m =
      count-group (branch_definition w) (range (branches w)) next_at k (definition w k)
      (λ b i q.
      let l : b < branches w = omega (arith, from_member b 0 (branches w) i) in
      sym (ap (definition w) (one-member k (next w b) q) ∙ Trees.next-definition w p.ranges p.shape (home w b) b (Owned.home-has w p.shape b l)))
      (copied w) (copied-distinct w) (node_of w k m).1

  owned-sum : (u : List ℕ) (k : ℕ)
      → times k (root_nodes u ++ (new_children u ++ next_nodes u)) ≡ times k (root_nodes u) + (times k (new_children u) + times k (next_nodes u))
  owned-sum u k = times-append k (root_nodes u) (new_children u ++ next_nodes u) ∙ rw (times-append k (new_children u) (next_nodes u))

  owned-new : (k : ℕ) → k < nodes (rewritten w) → is_owned_once (rewritten w) k ≡ true
  unfolding is_owned_once
  owned-new k l = same-yes _ _ (owned-sum (rewritten w) k ∙ rw (roots-new, children-new, nexts-new) (go (Insides.new-node w p k l)))
    where
      once : (m : ℕ) → m < nodes w → times m (root_nodes w) + (times m (new_children w) + times m (next_nodes w)) ≡ 1
      once m i = sym (owned-sum w m) ∙ Owned.owned-once w p.shape m i

      go : NewNumber (nodes w) (node_copies w) (nodes-distinct w) k
          → times k (root_nodes w ++ map (copy_node_of w) (flat root_at (copied w))) +
          (times k (new_children w ++ map (copy_node_of w) (flat child_at (node_copies w))) + times k
          (next_nodes w ++ map (copy_node_of w) (flat next_at (branch_copies w)))) ≡ 1
      go (old i) =
          rw (
            count-old root_at (root_nodes w) (flat root_at (copied w)) roots-inside roots-copied k i,
            count-old child_at (new_children w) (flat child_at (node_copies w)) children-inside children-copied k i,
            count-old next_at (next_nodes w) (flat next_at (branch_copies w)) nexts-inside nexts-copied k i,
          ) (once k i)
      go (copy m i e) =
          rw (
            e,
            count-copy root_at (root_nodes w) (flat root_at (copied w)) roots-inside roots-copied m i,
            count-copy child_at (new_children w) (flat child_at (node_copies w)) children-inside children-copied m i,
            count-copy next_at (next_nodes w) (flat next_at (branch_copies w)) nexts-inside nexts-copied m i,
            count-roots m i,
            count-children m i,
            count-nexts m i,
          ) (once m (node_of w m i).0)

  -- ---- children lie above

  above_new : (n : ℕ) → n < nodes (rewritten w) → are_children_above (rewritten w) n ≡ true
  unfolding are_children_above
  above_new n l = go (Insides.new-node w p n l)
    where
      go : NewNumber (nodes w) (node_copies w) (nodes-distinct w) n
          → pick (is_new (rewritten w) n) (ltb n (node_second (rewritten w) n)) (every (λ b. ltb n (next (rewritten w) b)) (branches_of (rewritten w) n)) ≡ true
      go (old i) = rw (Reading.node_kind-old w n i, Reading.node_second-old w n i, Spans.branches-old w p n i) (at (true-or-false (is_new w n)))
        where
          at : (is_new w n ≡ true) ⊎ (is_new w n ≡ false)
              → pick (is_new w n) (ltb n (node_second w n)) (every (λ b. ltb n (next (rewritten w) b)) (branches_of w n)) ≡ true
          at (inl k) = rw k (lt-ltb n (node_second w n) (Owned.child-above w p.shape n i k))
          at (inr k) =
              rw k (Rattle.lists.proofs.Ranges.member-every (λ b. ltb n (next (rewritten w) b)) (branches_of w n)
              (λ b m.
              let c = Owned.branches-in w n b i m in
              lt-ltb n (next (rewritten w) b)
              (rw (Reading.next-old w b (Trees.branch-inside w p.ranges p.shape n b c)) (Owned.next-above w p.shape n b c))))
      go (copy m i e) = rw (e, Reading.node_kind-copy w m i, Spans.branches-copy w p m i) (at (true-or-false (is_new w m)))
        where
          at : (is_new w m ≡ true) ⊎ (is_new w m ≡ false)
              → pick (is_new w m) (ltb (copy_node_of w m) (node_second (rewritten w) (copy_node_of w m)))
              (every (λ b. ltb (copy_node_of w m) (next (rewritten w) b)) (map (copy_branch_of w) (branches_of w m))) ≡ true
          at (inl k) =
              let j = (node_of w m i).0 in
              rw (k, Fields.child-copy w p m i k)
              (lt-ltb (copy_node_of w m) (copy_node_of w (node_second w m))
              (Spans.copy-order w p m (node_second w m) i (Family.child-copied w p m i k) (sym (Trees.new-definition w p.ranges p.shape m j k))
              (Owned.child-above w p.shape m j k)))
          at (inr k) =
              rw k (Rattle.lists.proofs.Ranges.member-every (λ b. ltb (copy_node_of w m) (next (rewritten w) b)) (map (copy_branch_of w) (branches_of w m))
              (λ b' q.
              let s = map-member (copy_branch_of w) b' (branches_of w m) q in
              let b = s.source in
              let c = Owned.branches-in w m b (node_of w m i).0 s.stands in
              let j = Family.branch-copied w p m b i c in
              lt-ltb (copy_node_of w m) (next (rewritten w) b')
              (rw (s.gives, Reading.next-copy w b j)
              (Spans.copy-order w p m (next w b) i (Family.next-copied w p b j) (sym (Trees.next-definition w p.ranges p.shape m b c))
              (Owned.next-above w p.shape m b c)))))

  pub shape-new : is_shape_right (rewritten w) ≡ true
  unfolding is_shape_right
  shape-new =
      and_intro _ _ branch-ranges
      (and_intro _ _ argument-ranges
      (and_intro _ _ (below-every (is_owned_once (rewritten w)) (nodes (rewritten w)) owned-new)
      (below-every (are_children_above (rewritten w)) (nodes (rewritten w)) above_new)))
