-- A table to which causes 1 to 6 do not apply is shaped: its nodes form trees.
use mathlib.Core.Path.{◌≡◌}
use mathlib.Core.Bool.{true}
use mathlib.Core.List.{List}
use Prim.Native.Nat.{ℕ, ◌+◌, ◌≤◌, ◌<◌}
use native.Mathlib.Omega.{arith}
use Rattle.lists.specs.Lists.{member, from}
use Rattle.lists.proofs.Ranges.{from_member}
use Rattle.lists.proofs.Members.{map-member}
use Rattle.scheme.specs.Words.{nodes, names, formal_count, node_first, node_second, is_choice, is_call_node, argument, arguments_of}
use Rattle.scheme.specs.Owners.{home}
use Rattle.table.specs.Causes.{are_counts_right, are_kinds_right, are_ranges_right, is_shape_right}
use Rattle.table.specs.Inner.Shaped.{Reached, from-root, from-new, from-branch, Shaped}
use Rattle.table.proofs.Inside
use Rattle.table.proofs.Owned
use Rattle.table.proofs.Owned.{BranchOf, Leads, by-root, by-new, by-branch}
use Rattle.table.proofs.Trees

module _ (w : List ℕ) (r : are_ranges_right w ≡ true) where
  -- a Call's arguments are names
  pub argument-inside : (n x : ℕ) → n < nodes w → is_call_node w n ≡ true → member x (arguments_of w n) ≡ true → x < names w
  unfolding arguments_of
  argument-inside n x l k m =
      let s = map-member (argument w) x (from (node_second w n) (formal_count w (node_first w n))) m in
      let i = from_member s.source (node_second w n) (formal_count w (node_first w n)) s.stands in
      rw s.gives (Inside.argument-inside w r s.source (omega (arith, i, Inside.call-inside w r n l k)))

  pub reached : is_shape_right w ≡ true → (k : ℕ) → k < nodes w → Reached w k
  reached h k l = go (Owned.leads w h k l)
    where
      go : Leads w k → Reached w k
      go (by-root d i e) = from-root d i e
      go (by-new n i c e) = from-new n (omega (arith, Owned.child-above w h n i c)) c e
      go (by-branch b i e) =
          let c = Owned.home-has w h b i in
          from-branch (home w b) b (omega (arith, Owned.next-above w h (home w b) b c)) c.choice c.low c.high e

pub shaped : (w : List ℕ) → are_counts_right w ≡ true → are_kinds_right w ≡ true → are_ranges_right w ≡ true → is_shape_right w ≡ true → Shaped w
shaped w c k r h =
    let few = Inside.counted w c in
    record {
      few-publics = few.few-publics;
      few-bounds = few.few-bounds;
      few-definitions = few.few-definitions;
      few-threads = few.few-threads;
      some-node = few.some-node;
      few-nodes = few.few-nodes;
      few-branches = few.few-branches;
      few-arguments = few.few-arguments;
      root-inside = Inside.root-inside w r;
      root-held = Trees.root-held w r h;
      new-inside = λ n l i. (Owned.child-above w h n l i, (Inside.new-inside w r n l i).1);
      new-name = λ n l i. Inside.bound-inside w (node_first w n) (Inside.new-inside w r n l i).0;
      new-held = Trees.new-held w r h;
      choice-inside = Inside.choice-inside w r;
      next-inside = λ n b l i a z.
          let c = branch n b l i a z in
          (Owned.next-above w h n b c, Inside.next-inside w r b (Trees.branch-inside w r h n b c));
      next-held = λ n b l i a z. Trees.next-held w r h n b (branch n b l i a z);
      channel-inside = Inside.channel-inside w r;
      name-inside = Inside.name-inside w r;
      call-inside = Inside.call-inside w r;
      argument-inside = argument-inside w r;
      reached = reached w r h;
    }
  where
    branch : (n b : ℕ) → n < nodes w → is_choice w n ≡ true → node_first w n ≤ b → b < node_first w n + node_second w n → BranchOf w n b
    branch n b l i a z = record { inside = l; choice = i; low = a; high = z }
