-- What is copied together: with a definition its root, with a node its children and branches, with these the names that they bind and use.
use mathlib.Core.Path.{◌≡◌, refl, sym, ◌∙◌}
use mathlib.Core.Bool.{Bool, true, false, ◌&&◌}
use mathlib.Core.List.{List, [], ◌∷◌}
use Prim.Native.Nat.{ℕ, ◌+◌, ◌≤◌, ◌<◌}
use native.Mathlib.Omega.{arith}
use lib.Dec.{ltb, leb}
use borrow.Author.Tests.{lt-ltb, le-ltb, ltb-true, le-leb, leb-true}
use Rattle.lists.specs.Lists.{pick, same, from, range, every, member, some, Distinct}
use Rattle.lists.proofs.Tests.{and_intro, and_both, all_hold, same_self}
use Rattle.lists.proofs.Ranges.{member-from, from_member}
use Rattle.lists.proofs.Members.{distinct_from, distinct-keep, member-keep}
use Rattle.lists.proofs.First.{first-only}
use Rattle.lists.proofs.Standing.{some_in, member-in}
use Rattle.scheme.specs.Words.{publics, bounds, definitions, nodes, branches, arguments, names, root, formal_count, formals, node_first, node_second, is_new}
use Rattle.scheme.specs.Words.{is_call_node, branch_name, next, is_receive, branch_count_of, argument_count_of}
use Rattle.scheme.specs.Owners.{home, definition, held}
use Rattle.scheme.specs.Scheme.{Binder, by_new, by_receive, by_formal, unbound, binder_of}
use Rattle.table.specs.Causes.{cause_sparing, are_calls_right, first_failed, long_enough, are_counts_right, is_layout_right, are_kinds_right, are_ranges_right, is_shape_right}
use Rattle.table.specs.Causes.{is_binding_right, is_scope_right, consecutive, is_owned_once, are_children_above}
use Rattle.table.specs.Inner.Shaped.{BranchOf}
use Rattle.table.proofs.Inside
use Rattle.table.proofs.Owned
use Rattle.table.proofs.Trees
use Rattle.table.proofs.Binders
use Rattle.table.proofs.Held
use Rattle.table.proofs.Consecutive.{range_unique}
use Rattle.process.specs.StateWords.{place}
use Rattle.rewriting.specs.Rewriting.{is_self_calling, copied, caller, appended, name_copies, node_copies, branch_copies, argument_copies, name_definition_of}
use Rattle.rewriting.specs.Rewriting.{binder_definition, branch_definition, argument_definition, copy_name_of}
use Rattle.rewriting.proofs.Appended.{groups-distinct, groups-in, in-groups}

-- ---- a table that no cause refuses, self-calls spared

pub record Sound (w : List ℕ) : Type 0 where
  pub long : long_enough w ≡ true
  pub counts : are_counts_right w ≡ true
  pub layout : is_layout_right w ≡ true
  pub kinds : are_kinds_right w ≡ true
  pub ranges : are_ranges_right w ≡ true
  pub shape : is_shape_right w ≡ true
  pub binding : is_binding_right w ≡ true
  pub scope : is_scope_right w ≡ true
  pub calls : are_calls_right w true ≡ true

held_one : (b : Bool) (rest n : ℕ) → 1 ≤ n → pick b rest n ≡ 0 → (b ≡ true) × (rest ≡ 0)
held_one true rest n l h = (refl, h)
held_one false rest n l h = absurd (omega arith)

pub sound : (w : List ℕ) → cause_sparing w true ≡ 0 → Sound w
unfolding cause_sparing first_failed
sound w h =
    let t1 = held_one (long_enough w) _ 1 (omega arith) h in
    let t2 = held_one (are_counts_right w) _ 2 (omega arith) t1.1 in
    let t3 = held_one (is_layout_right w) _ 3 (omega arith) t2.1 in
    let t4 = held_one (are_kinds_right w) _ 4 (omega arith) t3.1 in
    let t5 = held_one (are_ranges_right w) _ 5 (omega arith) t4.1 in
    let t6 = held_one (is_shape_right w) _ 6 (omega arith) t5.1 in
    let t7 = held_one (is_binding_right w) _ 7 (omega arith) t6.1 in
    let t8 = held_one (is_scope_right w) _ 8 (omega arith) t7.1 in
    let t9 = held_one (are_calls_right w true) _ 9 (omega arith) t8.1 in
    record { long = t1.0; counts = t2.0; layout = t3.0; kinds = t4.0; ranges = t5.0; shape = t6.0; binding = t7.0; scope = t8.0; calls = t9.0 }

-- ---- lists of copies

module _ (w : List ℕ) where
  pub copied-distinct : Distinct (copied w)
  unfolding copied
  copied-distinct = distinct-keep (λ d. some (λ n. is_self_calling w n && same (definition w n) d) (range (nodes w))) (range (definitions w))
      (distinct_from 0 (definitions w))

  pub copied-inside : (d : ℕ) → member d (copied w) ≡ true → d < definitions w
  unfolding copied
  copied-inside d m =
      let t =
      and_both (some (λ n. is_self_calling w n && same (definition w n) d) (range (nodes w))) (member d (range (definitions w)))
      (sym (member-keep (λ d. some (λ n. is_self_calling w n && same (definition w n) d) (range (nodes w))) d (range (definitions w))) ∙ m) in
      omega (arith, from_member d 0 (definitions w) t.1)

  -- who calls itself is copied
  pub self-copied : (n : ℕ) → n < nodes w → definition w n < definitions w → is_self_calling w n ≡ true → member (definition w n) (copied w) ≡ true
  unfolding copied
  self-copied n l u c =
      member-keep (λ d. some (λ n. is_self_calling w n && same (definition w n) d) (range (nodes w))) (definition w n) (range (definitions w))
      ∙ and_intro _ _
      (some_in (λ m. is_self_calling w m && same (definition w m) (definition w n)) n (range (nodes w))
      (member-in n (range (nodes w)) (member-from n 0 (nodes w) (omega arith) (omega arith)))
      (and_intro _ _ c (same_self (definition w n))))
      (member-from (definition w n) 0 (definitions w) (omega arith) (omega arith))

  pub nodes-distinct : Distinct (node_copies w)
  unfolding appended
  nodes-distinct = groups-distinct (definition w) (range (nodes w)) (copied w) (distinct_from 0 (nodes w)) copied-distinct

  pub branches-distinct : Distinct (branch_copies w)
  unfolding appended
  branches-distinct = groups-distinct (branch_definition w) (range (branches w)) (copied w) (distinct_from 0 (branches w)) copied-distinct

  pub names-distinct : Distinct (name_copies w)
  unfolding appended
  names-distinct = groups-distinct (name_definition_of w) (from (publics w) (bounds w)) (copied w) (distinct_from (publics w) (bounds w)) copied-distinct

  pub arguments-distinct : Distinct (argument_copies w)
  unfolding appended
  arguments-distinct = groups-distinct (argument_definition w) (range (arguments w)) (copied w) (distinct_from 0 (arguments w)) copied-distinct

  pub node_of : (n : ℕ) → member n (node_copies w) ≡ true → (n < nodes w) × (member (definition w n) (copied w) ≡ true)
  unfolding appended
  node_of n m = let t = groups-in (definition w) (range (nodes w)) (copied w) n m in (omega (arith, from_member n 0 (nodes w) t.0), t.1)

  pub of_node : (n : ℕ) → n < nodes w → member (definition w n) (copied w) ≡ true → member n (node_copies w) ≡ true
  unfolding appended
  of_node n l m = in-groups (definition w) (range (nodes w)) (copied w) n (member-from n 0 (nodes w) (omega arith) (omega arith)) m

  pub branch-of : (b : ℕ) → member b (branch_copies w) ≡ true → (b < branches w) × (member (definition w (home w b)) (copied w) ≡ true)
  unfolding appended
  branch-of b m = let t = groups-in (branch_definition w) (range (branches w)) (copied w) b m in (omega (arith, from_member b 0 (branches w) t.0), t.1)

  pub of-branch : (b : ℕ) → b < branches w → member (definition w (home w b)) (copied w) ≡ true → member b (branch_copies w) ≡ true
  unfolding appended
  of-branch b l m = in-groups (branch_definition w) (range (branches w)) (copied w) b (member-from b 0 (branches w) (omega arith) (omega arith)) m

  pub name_of : (x : ℕ) → member x (name_copies w) ≡ true → (publics w ≤ x) × (x < names w) × (member (name_definition_of w x) (copied w) ≡ true)
  unfolding appended
  name_of x m =
      let t = groups-in (name_definition_of w) (from (publics w) (bounds w)) (copied w) x m in
      let r = from_member x (publics w) (bounds w) t.0 in
      (r.0, r.1, t.1)

  pub of-name : (x : ℕ) → publics w ≤ x → x < names w → member (name_definition_of w x) (copied w) ≡ true → member x (name_copies w) ≡ true
  unfolding appended
  of-name x l u m = in-groups (name_definition_of w) (from (publics w) (bounds w)) (copied w) x (member-from x (publics w) (bounds w) l u) m

  pub argument-of : (a : ℕ) → member a (argument_copies w) ≡ true → (a < arguments w) × (member (argument_definition w a) (copied w) ≡ true)
  unfolding appended
  argument-of a m = let t = groups-in (argument_definition w) (range (arguments w)) (copied w) a m in
      (omega (arith, from_member a 0 (arguments w) t.0), t.1)

  pub of-argument : (a : ℕ) → a < arguments w → member (argument_definition w a) (copied w) ≡ true → member a (argument_copies w) ≡ true
  unfolding appended
  of-argument a l m = in-groups (argument_definition w) (range (arguments w)) (copied w) a (member-from a 0 (arguments w) (omega arith) (omega arith)) m

  -- a bound name's copy
  pub copy-bound : (x : ℕ) → publics w ≤ x → copy_name_of w x ≡ names w + place x (name_copies w)
  copy-bound x l = rw (le-ltb x (publics w) l)

  pub copy-public : (x : ℕ) → x < publics w → copy_name_of w x ≡ x
  copy-public x l = rw (lt-ltb x (publics w) l)

module _ (w : List ℕ) (p : Sound w) where
  abbrev few : Inside.Counted w
  few = Inside.counted w p.counts

  pub some-definition : 1 ≤ definitions w
  some-definition = omega (arith, Inside.entry-inside w p.ranges 0 (Inside.counted w p.counts).some-thread)

  pub definition-inside : (n : ℕ) → definition w n < definitions w
  definition-inside n = Held.definition-inside w p.ranges p.shape p.binding some-definition n

  -- ---- ranges of branches and arguments

  pub shape-tests : (consecutive w (node_first w) (branch_count_of w) (branches w) 0 (range (nodes w)) ≡ true)
      × (consecutive w (node_second w) (argument_count_of w) (arguments w) 0 (range (nodes w)) ≡ true)
      × (every (is_owned_once w) (range (nodes w)) ≡ true) × (every (are_children_above w) (range (nodes w)) ≡ true)
  unfolding is_shape_right
  shape-tests =
      let s = p.shape in
      let t =
      all_hold (consecutive w (node_first w) (branch_count_of w) (branches w) 0 (range (nodes w)))
      (consecutive w (node_second w) (argument_count_of w) (arguments w) 0 (range (nodes w)) ∷ every (is_owned_once w) (range (nodes w)) ∷
      every (are_children_above w) (range (nodes w)) ∷ []) s in
      (t.0, t.1.0, t.1.1.0, t.1.1.1)

  -- the Call that has an argument
  pub caller-is : (n a : ℕ) → n < nodes w → is_call_node w n ≡ true → node_second w n ≤ a → a < node_second w n + argument_count_of w n → caller w a ≡ n
  unfolding caller
  caller-is n a l k i j =
      first-only (λ n. is_call_node w n && (leb (node_second w n) a && ltb a (node_second w n + argument_count_of w n))) 0 (nodes w) 0 n (omega arith) (omega arith)
      (and_intro _ _ k (and_intro _ _ (le-leb (node_second w n) a i) (lt-ltb a (node_second w n + argument_count_of w n) j)))
      (λ m u v t.
      let r = and_both (is_call_node w m) (leb (node_second w m) a && ltb a (node_second w m + argument_count_of w m)) t in
      let s = and_both (leb (node_second w m) a) (ltb a (node_second w m + argument_count_of w m)) r.1 in
      range_unique w (node_second w) (argument_count_of w) (arguments w) 0 (range (nodes w)) shape-tests.1 a m n
      (member-from m 0 (nodes w) (omega arith) v) (member-from n 0 (nodes w) (omega arith) (omega arith)) (leb-true _ _ s.0, ltb-true _ _ s.1) (i, j))

  -- ---- families

  pub root-copied : (d : ℕ) → member d (copied w) ≡ true → member (root w d) (node_copies w) ≡ true
  root-copied d m =
      let l = copied-inside w d m in
      of_node w (root w d) (Inside.root-inside w p.ranges d l) (rw (Trees.root-definition w p.ranges p.shape d l) m)

  pub child-copied : (n : ℕ) → member n (node_copies w) ≡ true → is_new w n ≡ true → member (node_second w n) (node_copies w) ≡ true
  child-copied n m k =
      let t = node_of w n m in
      of_node w (node_second w n) (Inside.new-inside w p.ranges n t.0 k).1 (rw (Trees.new-definition w p.ranges p.shape n t.0 k) t.1)

  pub branch-copied : (n b : ℕ) → member n (node_copies w) ≡ true → BranchOf w n b → member b (branch_copies w) ≡ true
  branch-copied n b m c =
      of-branch w b (Trees.branch-inside w p.ranges p.shape n b c) (rw (Owned.home-is w p.shape n b c) (node_of w n m).1)

  pub home-copied : (b : ℕ) → member b (branch_copies w) ≡ true → member (home w b) (node_copies w) ≡ true
  home-copied b m =
      let t = branch-of w b m in
      of_node w (home w b) (Owned.home-has w p.shape b t.0).inside t.1

  pub next-copied : (b : ℕ) → member b (branch_copies w) ≡ true → member (next w b) (node_copies w) ≡ true
  next-copied b m =
      let t = branch-of w b m in
      of_node w (next w b) (Inside.next-inside w p.ranges b t.0)
      (rw (Trees.next-definition w p.ranges p.shape (home w b) b (Owned.home-has w p.shape b t.0)) t.1)

  pub argument-copied : (n a : ℕ) → member n (node_copies w) ≡ true → is_call_node w n ≡ true → node_second w n ≤ a → a < node_second w n + argument_count_of w n
      → member a (argument_copies w) ≡ true
  argument-copied n a m k i j =
      let t = node_of w n m in
      let u : a < arguments w = below n a t.0 k j in
      of-argument w a u (rw (caller-is n a t.0 k i j) t.1)
    where
      below : (n a : ℕ) → n < nodes w → is_call_node w n ≡ true → a < node_second w n + argument_count_of w n → a < arguments w
      below n a l k j =
          let q = (Inside.call-inside w p.ranges n l k).1 in
          let z : a < node_second w n + formal_count w (node_first w n) = rw k at j in
          omega (arith, q, z)

  -- names: those that a New, a receive or a definition binds
  pub new-copied : (n : ℕ) → member n (node_copies w) ≡ true → is_new w n ≡ true → member (node_first w n) (name_copies w) ≡ true
  new-copied n m k =
      let t = node_of w n m in
      let i = Inside.bound-inside w (node_first w n) (Inside.new-inside w p.ranges n t.0 k).0 in
      of-name w (node_first w n) i.0 i.1 (rw (Binders.binder-new w p.ranges p.binding n t.0 k) t.1)

  pub receive-copied : (b : ℕ) → member b (branch_copies w) ≡ true → is_receive w b ≡ true → member (branch_name w b) (name_copies w) ≡ true
  receive-copied b m k =
      let t = branch-of w b m in
      let i = Inside.bound-inside w (branch_name w b) (Inside.receive_inside w p.ranges b t.0 k) in
      of-name w (branch_name w b) i.0 i.1 (rw (Binders.binder-receive w p.ranges p.binding b t.0 k) t.1)

  pub formal-copied : (d x : ℕ) → member d (copied w) ≡ true → member x (formals w d) ≡ true → member x (name_copies w) ≡ true
  formal-copied d x m k =
      let l = copied-inside w d m in
      let i = Inside.formals-inside w p.ranges d x l k in
      of-name w x i.0 i.1 (rw (Binders.binder-formal w p.ranges p.binding d x l k) m)

  -- a name held at a node belongs to the node's definition
  pub held-definition : (n x : ℕ) → member x (held w n) ≡ true → name_definition_of w x ≡ definition w n
  held-definition n x m = go (binder_of w x) refl (Held.above w p.ranges p.shape p.binding n x m)
    where
      go : (b : Binder) → binder_of w x ≡ b → Held.Above w n (binder_of w x) → binder_definition w (binder_of w x) ≡ definition w n
      go (by_new j) e a = let h : Held.Above w n (by_new j) = rw e at a in rw e h.1
      go (by_receive b) e a = let h : Held.Above w n (by_receive b) = rw e at a in rw e h.1
      go (by_formal d) e a = let h : Held.Above w n (by_formal d) = rw e at a in rw e (sym h)
      go unbound e a = let h : Held.Above w n unbound = rw e at a in absurd h

  pub held-copied : (n x : ℕ) → member n (node_copies w) ≡ true → member x (held w n) ≡ true → member x (name_copies w) ≡ true
  held-copied n x m k =
      let i = Held.held-bound w p.ranges p.shape p.binding n x k in
      of-name w x i.0 i.1 (rw (held-definition n x k) (node_of w n m).1)
