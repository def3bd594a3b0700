-- How large a table is: its length, and its counts compared.
use mathlib.Core.Path.{◌≡◌}
use mathlib.Core.Bool.{Bool, true, false}
use mathlib.Core.List.{List, [], ◌∷◌, ◌++◌}
use mathlib.Core.Logic.{◌⊎◌, inl, inr}
use Prim.Native.Nat.{ℕ, ◌+◌, ◌*◌, ◌≤◌, ◌<◌}
use native.Mathlib.Omega.{arith}
use lib.ListN.{length, length-append}
use Rattle.lists.specs.Lists.{pick, same, word, range, keep, flat, member}
use Rattle.lists.proofs.Tests.{all_hold, true-or-false, same_true}
use Rattle.lists.proofs.Ranges.{from-length, from_member}
use Rattle.lists.proofs.Members.{member-nil, one-member, append-member, flat-member}
use Rattle.lists.proofs.Counts.{pigeonhole, flat-keep-length, flat-one-length}
use Rattle.scheme.specs.Words.{publics, bounds, definitions, threads, nodes, branches, arguments, root, node_second, is_new, branch_name, is_receive, next}
use Rattle.table.specs.Causes.{is_layout_right, are_ranges_right, is_shape_right, is_binding_right, root_nodes, new_children, next_nodes, received_names}
use Rattle.table.proofs.Inside
use Rattle.table.proofs.Owned
use Rattle.table.proofs.Binders

-- cause 3
pub whole_length : (w : List ℕ) → is_layout_right w ≡ true
    → 13 + bounds w + 4 * definitions w + threads w + 3 * nodes w + 4 * branches w + arguments w ≡ length w
unfolding is_layout_right
whole_length w h =
    let t =
    all_hold (same (word w 7) 13)
    (same (word w 8) (word w 7 + bounds w) ∷ same (word w 9) (word w 8 + 4 * definitions w) ∷ same (word w 10) (word w 9 + threads w) ∷
    same (word w 11) (word w 10 + 3 * nodes w) ∷ same (word w 12) (word w 11 + 4 * branches w) ∷ same (length w) (word w 12 + arguments w) ∷ []) h
    in
    omega (
      arith,
      same_true _ _ t.0,
      same_true _ _ t.1.0,
      same_true _ _ t.1.1.0,
      same_true _ _ t.1.1.1.0,
      same_true _ _ t.1.1.1.1.0,
      same_true _ _ t.1.1.1.1.1.0,
      same_true _ _ t.1.1.1.1.1.1,
    )

-- a list of numbers, one for each element that passes or none: where a number in it comes from
from_some : (p : ℕ → Bool) (f : ℕ → ℕ) (k n : ℕ) → member k (flat (λ i. pick (p i) (f i ∷ []) []) (range n)) ≡ true
    → (i : ℕ) × (i < n) × (p i ≡ true) × (k ≡ f i)
from_some p f k n m =
    let s = flat-member (λ i. pick (p i) (f i ∷ []) []) k (range n) m in
    go s.source (omega (arith, from_member s.source 0 n s.stands)) s.gives (true-or-false (p s.source))
  where
    go : (i : ℕ) → i < n → member k (pick (p i) (f i ∷ []) []) ≡ true → (p i ≡ true) ⊎ (p i ≡ false) → (i : ℕ) × (i < n) × (p i ≡ true) × (k ≡ f i)
    go i l q (inl e) = (i, l, e, one-member k (f i) (rw e at q))
    go i l q (inr e) = member-nil k (rw e at q)

from_one : (f : ℕ → ℕ) (k n : ℕ) → member k (flat (λ i. f i ∷ []) (range n)) ≡ true → (i : ℕ) × (i < n) × (k ≡ f i)
from_one f k n m =
    let s = flat-member (λ i. f i ∷ []) k (range n) m in
    (s.source, omega (arith, from_member s.source 0 n s.stands), one-member k (f s.source) s.gives)

module _ (w : List ℕ) (r : are_ranges_right w ≡ true) where
  -- roots and children are nodes
  owned_inside : (k : ℕ) → member k (root_nodes w ++ (new_children w ++ next_nodes w)) ≡ true → k < nodes w
  unfolding root_nodes new_children next_nodes
  owned_inside k m = go (append-member k (root_nodes w) (new_children w ++ next_nodes w) m)
    where
      child : (member k (new_children w) ≡ true) ⊎ (member k (next_nodes w) ≡ true) → k < nodes w
      child (inl q) = let s = from_some (is_new w) (node_second w) k (nodes w) q in rw s.3 (Inside.new-inside w r s.0 s.1 s.2).1
      child (inr q) = let s = from_one (next w) k (branches w) q in rw s.2 (Inside.next-inside w r s.0 s.1)

      go : (member k (root_nodes w) ≡ true) ⊎ (member k (new_children w ++ next_nodes w) ≡ true) → k < nodes w
      go (inl q) = let s = from_one (root w) k (definitions w) q in rw s.2 (Inside.root-inside w r s.0 s.1)
      go (inr q) = child (append-member k (new_children w) (next_nodes w) q)

  -- every node is owned once, so there are at least as many nodes as branches and definitions
  pub enough-nodes : is_shape_right w ≡ true → branches w + definitions w ≤ nodes w
  unfolding root_nodes next_nodes
  enough-nodes h =
      omega (
        arith,
        few,
        length-append (root_nodes w) (new_children w ++ next_nodes w),
        length-append (new_children w) (next_nodes w),
        flat-one-length (root w) (range (definitions w)),
        flat-one-length (next w) (range (branches w)),
        from-length 0 (definitions w),
        from-length 0 (branches w),
      )
    where
      few : length (root_nodes w ++ (new_children w ++ next_nodes w)) ≤ nodes w
      few =
          pigeonhole (root_nodes w ++ (new_children w ++ next_nodes w)) 0 (nodes w) (λ k m. omega (arith, owned_inside k m))
          (λ k l u. omega (arith, Owned.owned-once w h k (omega arith)))

  -- each receive binds a name of its own
  pub few-receives : is_binding_right w ≡ true → length (keep (is_receive w) (range (branches w))) ≤ bounds w
  unfolding received_names
  few-receives h = rw (← (flat-keep-length (is_receive w) (branch_name w) (range (branches w)))) few
    where
      few : length (received_names w) ≤ bounds w
      few =
          pigeonhole (received_names w) (publics w) (bounds w)
          (λ x m. let s = from_some (is_receive w) (branch_name w) x (branches w) m in
          rw s.3 (Inside.bound-inside w (branch_name w s.0) (Inside.receive_inside w r s.0 s.1 s.2)))
          (λ x l u. Binders.received-once w r h x l u)
