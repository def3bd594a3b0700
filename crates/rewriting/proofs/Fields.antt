-- The rewritten table's nodes, branches, arguments and formals by kind.
use mathlib.Core.Path.{◌≡◌, refl, ap, ◌∙◌}
use mathlib.Core.Bool.{true, false, not, ◌||◌}
use mathlib.Core.List.{List, [], ◌∷◌}
use mathlib.Core.Logic.{◌⊎◌, inl, inr}
use Prim.Native.Nat.{ℕ, ◌+◌, ◌-◌, ◌≤◌, ◌<◌}
use native.Mathlib.Decide.{ℕ_discrete}
use native.Mathlib.Omega.{arith}
use lib.Dec.{ltb}
use borrow.Author.Tests.{lt-ltb, not-true}
use Rattle.lists.specs.Lists.{pick, same, from, range, every, member}
use Rattle.lists.proofs.Tests.{false-true, true-or-false, and_intro, and_both, all_hold, or_right, same-yes, same-no, same_true, same_false}
use Rattle.lists.proofs.Ranges.{member-from, from_member, every-below}
use Rattle.lists.proofs.Members.{member-map}
use Rattle.scheme.specs.Words.{publics, bounds, definitions, nodes, branches, arguments, names, definition_thread, first_formal, formal_count, formals}
use Rattle.scheme.specs.Words.{node_kind, node_first, node_second, is_stop_node, is_choice, is_new, is_call_node, argument, arguments_of, branch_count_of, argument_count_of}
use Rattle.scheme.specs.Owners.{definition}
use Rattle.table.specs.Causes.{is_name_kind_right, are_formals_zero, is_call_zero, is_node_kind_right, is_branch_kind_right, are_kinds_right}
use Rattle.table.proofs.Inside
use Rattle.table.proofs.Owned
use Rattle.table.proofs.Uses.{Usable}
use Rattle.table.proofs.Consecutive.{In, range-covers}
use Rattle.rewriting.specs.Rewriting.{is_self_calling, copied, caller, appended, name_copies, node_copies, branch_copies, argument_copies, name_definition_of}
use Rattle.rewriting.specs.Rewriting.{branch_definition, argument_definition, copy_name_of, copy_definition_of, copy_node_of, copy_branch_of, copy_argument_of, rewritten}
use Rattle.rewriting.proofs.Appended.{copy-high}
use Rattle.rewriting.proofs.Runs.{Run, groups-run}
use Rattle.rewriting.proofs.Reading
use Rattle.rewriting.proofs.Family
use Rattle.rewriting.proofs.Family.{Sound, copied-distinct, copied-inside, self-copied, names-distinct, node_of, name_of, copy-bound, copy-public}

-- ---- the kinds of nodes and branches of any table

pub data Kind (u : List ℕ) (n : ℕ) : Type 0 where
  stops : node_kind u n ≡ 0 → node_first u n ≡ 0 → node_second u n ≡ 0 → Kind u n
  chooses : node_kind u n ≡ 1 → (node_second u n ≡ 0 → ⊥) → Kind u n
  makes : node_kind u n ≡ 2 → Kind u n
  calls : node_kind u n ≡ 3 → is_call_zero u n ≡ true → Kind u n

pub kind-right : (u : List ℕ) (n : ℕ) → Kind u n → is_node_kind_right u n ≡ true
unfolding is_node_kind_right same
kind-right u n (stops k a b) = rw (k, a, b)
kind-right u n (chooses k d) = rw (k, Rattle.lists.proofs.Tests.same-no (node_second u n) 0 d)
kind-right u n (makes k) = rw k
kind-right u n (calls k c) = rw k c

pub right-kind : (u : List ℕ) (n : ℕ) → is_node_kind_right u n ≡ true → Kind u n
unfolding is_node_kind_right
right-kind u n h = go (true-or-false (is_stop_node u n)) (true-or-false (is_choice u n)) (true-or-false (is_new u n)) (true-or-false (is_call_node u n))
  where
    go : (is_stop_node u n ≡ true) ⊎ (is_stop_node u n ≡ false) → (is_choice u n ≡ true) ⊎ (is_choice u n ≡ false) → (is_new u n ≡ true) ⊎ (is_new u n ≡ false)
        → (is_call_node u n ≡ true) ⊎ (is_call_node u n ≡ false) → Kind u n
    go (inl a) b c d =
        let t = and_both (same (node_first u n) 0) (same (node_second u n) 0) (rw a at h) in
        stops (same_true _ _ a) (same_true _ _ t.0) (same_true _ _ t.1)
    go (inr a) (inl b) c d = chooses (same_true _ _ b) (same_false _ _ (not-true _ (rw (a, b) at h)))
    go (inr a) (inr b) (inl c) d = makes (same_true _ _ c)
    go (inr a) (inr b) (inr c) (inl d) = calls (same_true _ _ d) (rw (a, b, c, d) at h)
    go (inr a) (inr b) (inr c) (inr d) = false-true refl (rw (a, b, c, d) at h)

module _ (u : List ℕ) (n : ℕ) where
  pub kind-choice : node_kind u n ≡ 1 → is_choice u n ≡ true
  kind-choice k = same-yes _ _ k

  pub kind-new : node_kind u n ≡ 2 → is_new u n ≡ true
  kind-new k = same-yes _ _ k

  pub kind-call : node_kind u n ≡ 3 → is_call_node u n ≡ true
  kind-call k = same-yes _ _ k

  -- a call's first argument is 0 where the definition called has no formals
  pub zero-call : (formal_count u (node_first u n) ≡ 0 → node_second u n ≡ 0) → is_call_zero u n ≡ true
  unfolding is_call_zero
  zero-call f =
      or_right (not (ltb (node_first u n) (definitions u))) (not (same (formal_count u (node_first u n)) 0) || same (node_second u n) 0)
      (go (ℕ_discrete (formal_count u (node_first u n)) 0))
    where
      go : Dec (formal_count u (node_first u n) ≡ 0) → (not (same (formal_count u (node_first u n)) 0) || same (node_second u n) 0) ≡ true
      go (yes e) = or_right (not (same (formal_count u (node_first u n)) 0)) (same (node_second u n) 0) (same-yes (node_second u n) 0 (f e))
      go (no d) = rw (same-no (formal_count u (node_first u n)) 0 d)

  pub call-zero : node_first u n < definitions u → is_call_zero u n ≡ true → formal_count u (node_first u n) ≡ 0 → node_second u n ≡ 0
  unfolding is_call_zero
  call-zero l h e = same_true _ _ (rw (lt-ltb (node_first u n) (definitions u) l, same-yes (formal_count u (node_first u n)) 0 e) at h)

module _ (w : List ℕ) (p : Sound w) where
  -- ---- the kinds of w

  pub kinds : (every (is_name_kind_right w) (from (publics w) (bounds w)) ≡ true) × (every (are_formals_zero w) (range (definitions w)) ≡ true)
      × (every (is_node_kind_right w) (range (nodes w)) ≡ true) × (every (is_branch_kind_right w) (range (branches w)) ≡ true)
  unfolding are_kinds_right
  kinds =
      let k = p.kinds in
      let t =
      all_hold (every (is_name_kind_right w) (from (publics w) (bounds w)))
      (every (are_formals_zero w) (range (definitions w)) ∷ every (is_node_kind_right w) (range (nodes w)) ∷ every (is_branch_kind_right w) (range (branches w)) ∷ []) k in
      (t.0, t.1.0, t.1.1.0, t.1.1.1)

  pub kind : (n : ℕ) → n < nodes w → Kind w n
  kind n l = right-kind w n (every-below (is_node_kind_right w) (nodes w) kinds.2 n l)

  -- ---- a call's target

  pub record Target (n t : ℕ) : Type 0 where
    pub inside : t < definitions (rewritten w)
    pub count : formal_count (rewritten w) t ≡ formal_count w (node_first w n)
    pub thread : definition_thread (rewritten w) t ≡ definition_thread w (node_first w n)

  kept_target : (n : ℕ) → node_first w n < definitions w → Target n (node_first w n)
  kept_target n l = record {
    inside = omega (arith, Reading.definitions-new w);
    count = Reading.formal_count-old w (node_first w n) l;
    thread = Reading.definition_thread-old w (node_first w n) l;
  }

  pub itself : (n : ℕ) → is_self_calling w n ≡ true → (is_call_node w n ≡ true) × (node_first w n ≡ definition w n)
  unfolding is_self_calling
  itself n h = let t = and_both (is_call_node w n) (same (node_first w n) (definition w n)) h in (t.0, same_true _ _ t.1)

  pub calls-itself : (n : ℕ) → is_call_node w n ≡ true → node_first w n ≡ definition w n → is_self_calling w n ≡ true
  unfolding is_self_calling
  calls-itself n k e = and_intro (is_call_node w n) (same (node_first w n) (definition w n)) k (same-yes (node_first w n) (definition w n) e)

  pub target-old : (n : ℕ) → n < nodes w → is_call_node w n ≡ true → Target n (node_first (rewritten w) n)
  target-old n l k = rw (Reading.node_first-old w n l) (go (true-or-false (is_self_calling w n)))
    where
      inside : node_first w n < definitions w
      inside = (Inside.call-inside w p.ranges n l k).0

      go : (is_self_calling w n ≡ true) ⊎ (is_self_calling w n ≡ false) → Target n (pick (is_self_calling w n) (copy_definition_of w (node_first w n)) (node_first w n))
      go (inl c) =
          let m : member (node_first w n) (copied w) ≡ true = rw (itself n c).1 (self-copied w n l (Family.definition-inside w p n) c) in
          rw c (record {
            inside = rw (Reading.definitions-new w) (copy-high (definitions w) (copied w) (copied-distinct w) (node_first w n) m);
            count = Reading.formal_count-copy w (node_first w n) m;
            thread = Reading.definition_thread-copy w (node_first w n) m;
          })
      go (inr c) = rw c (kept_target n inside)

  module _ (n : ℕ) (m : member n (node_copies w) ≡ true) where
    abbrev l : n < nodes w
    l = (node_of w n m).0

    pub call-copy : is_call_node w n ≡ true → node_first (rewritten w) (copy_node_of w n) ≡ node_first w n
    call-copy k = Reading.node_first-copy w n m ∙ rw (Inside.call-not-choice w n k, Inside.call-not-new w n k)

    pub choice-copy : is_choice w n ≡ true → node_first (rewritten w) (copy_node_of w n) ≡ copy_branch_of w (node_first w n)
    choice-copy k = Reading.node_first-copy w n m ∙ rw k

    pub new-copy : is_new w n ≡ true → node_first (rewritten w) (copy_node_of w n) ≡ copy_name_of w (node_first w n)
    new-copy k = Reading.node_first-copy w n m ∙ rw (Inside.new-not-choice w n k, k)

    pub child-copy : is_new w n ≡ true → node_second (rewritten w) (copy_node_of w n) ≡ copy_node_of w (node_second w n)
    child-copy k = Reading.node_second-copy w n m ∙ rw k

    -- where there are no arguments
    pub plain_copy : is_new w n ≡ false → argument_count_of w n ≡ 0 → node_second (rewritten w) (copy_node_of w n) ≡ node_second w n
    plain_copy k e = Reading.node_second-copy w n m ∙ rw (k, same-yes _ _ e)

    pub arguments-copy : is_new w n ≡ false → (argument_count_of w n ≡ 0 → ⊥) → node_second (rewritten w) (copy_node_of w n) ≡ copy_argument_of w (node_second w n)
    arguments-copy k e = Reading.node_second-copy w n m ∙ rw (k, same-no _ _ e)

    pub target-copy : is_call_node w n ≡ true → Target n (node_first (rewritten w) (copy_node_of w n))
    target-copy k = rw (call-copy k) (kept_target n (Inside.call-inside w p.ranges n l k).0)

  -- ---- how many branches and arguments

  pub branch-count-old : (n : ℕ) → n < nodes w → branch_count_of (rewritten w) n ≡ branch_count_of w n
  branch-count-old n l = rw (Reading.node_kind-old w n l, Reading.node_second-old w n l)

  pub argument-count-old : (n : ℕ) → n < nodes w → argument_count_of (rewritten w) n ≡ argument_count_of w n
  argument-count-old n l = rw (Reading.node_kind-old w n l) (go (true-or-false (is_call_node w n)))
    where
      go : (is_call_node w n ≡ true) ⊎ (is_call_node w n ≡ false) → pick (is_call_node w n) (formal_count (rewritten w) (node_first (rewritten w) n)) 0 ≡ argument_count_of w n
      go (inl k) = rw k (target-old n l k).count
      go (inr k) = rw k

  pub no_arguments : (n : ℕ) → is_call_node w n ≡ false → argument_count_of w n ≡ 0
  no_arguments n k = rw k

  pub branch-count-copy : (n : ℕ) → member n (node_copies w) ≡ true → branch_count_of (rewritten w) (copy_node_of w n) ≡ branch_count_of w n
  branch-count-copy n m = rw (Reading.node_kind-copy w n m) (go (true-or-false (is_choice w n)))
    where
      go : (is_choice w n ≡ true) ⊎ (is_choice w n ≡ false) → pick (is_choice w n) (node_second (rewritten w) (copy_node_of w n)) 0 ≡ branch_count_of w n
      go (inl k) = rw k (plain_copy n m (Inside.choice-not-new w n k) (no_arguments n (Inside.choice-not-call w n k)))
      go (inr k) = rw k

  pub argument-count-copy : (n : ℕ) → member n (node_copies w) ≡ true → argument_count_of (rewritten w) (copy_node_of w n) ≡ argument_count_of w n
  argument-count-copy n m = rw (Reading.node_kind-copy w n m) (go (true-or-false (is_call_node w n)))
    where
      go : (is_call_node w n ≡ true) ⊎ (is_call_node w n ≡ false)
          → pick (is_call_node w n) (formal_count (rewritten w) (node_first (rewritten w) (copy_node_of w n))) 0 ≡ argument_count_of w n
      go (inl k) = rw k (target-copy n m k).count
      go (inr k) = rw k

  -- ---- names

  pub name-inside : (x : ℕ) → x < names w → (x < publics w) ⊎ (member x (name_copies w) ≡ true) → copy_name_of w x < names (rewritten w)
  name-inside x l (inl u) = rw (copy-public w x u, Reading.names-new w) (omega arith)
  name-inside x l (inr m) =
      rw (copy-bound w x (name_of w x m).0, Reading.names-new w) (copy-high (names w) (name_copies w) (names-distinct w) x m)

  pub used-copied : (n x : ℕ) → member n (node_copies w) ≡ true → Usable w n x → (x < publics w) ⊎ (member x (name_copies w) ≡ true)
  used-copied n x m (inl l) = inl l
  used-copied n x m (inr k) = inr (Family.held-copied w p n x m k)

  -- the Call that has an argument
  pub record Passes (a n : ℕ) : Type 0 where
    pub inside : n < nodes w
    pub calls : is_call_node w n ≡ true
    pub low : node_second w n ≤ a
    pub high : a < node_second w n + argument_count_of w n

  pub caller-has : (a : ℕ) → a < arguments w → Passes a (caller w a)
  caller-has a l =
      let s = range-covers w (node_second w) (argument_count_of w) (arguments w) 0 (range (nodes w)) (Family.shape-tests w p).1 a (omega arith) l in
      let u : s.source < nodes w = omega (arith, from_member s.source 0 (nodes w) s.stands) in
      go s.source u s.gives (true-or-false (is_call_node w s.source))
    where
      go : (n : ℕ) → n < nodes w → In w (node_second w) (argument_count_of w) (arguments w) a n → (is_call_node w n ≡ true) ⊎ (is_call_node w n ≡ false) → Passes a (caller w a)
      go n u r (inl k) = rw (Family.caller-is w p n a u k r.0 r.1) (record { inside = u; calls = k; low = r.0; high = r.1 })
      go n u r (inr k) = let z : a < node_second w n + 0 = rw k at r.1 in absurd (omega (arith, r.0))

  pub argument-in : (n a : ℕ) → Passes a n → member (argument w a) (arguments_of w n) ≡ true
  unfolding arguments_of
  argument-in n a c =
      let g : argument_count_of w n ≡ formal_count w (node_first w n) = rw c.calls in
      member-map (argument w) a (from (node_second w n) (formal_count w (node_first w n)))
      (member-from a (node_second w n) (formal_count w (node_first w n)) c.low (omega (arith, c.high, g)))

  pub formals-in : (d x : ℕ) → first_formal w d ≤ x → x < first_formal w d + formal_count w d → member x (formals w d) ≡ true
  unfolding formals
  formals-in d x i j = member-from x (first_formal w d) (formal_count w d) i j

  -- ---- runs: formals of a definition, branches of a Choice, arguments of a Call are copied together

  pub formals-run : (d : ℕ) → member d (copied w) ≡ true → (formal_count w d ≡ 0 → ⊥) → Run (first_formal w d) (formal_count w d) (name_copies w)
  unfolding appended
  formals-run d m z =
      let l = copied-inside w d m in
      let a = Inside.formals-inside w p.ranges d (first_formal w d) l (formals-in d (first_formal w d) (omega arith) (omega arith)) in
      let b = Inside.formals-inside w p.ranges d (first_formal w d + (formal_count w d - 1)) l
      (formals-in d (first_formal w d + (formal_count w d - 1)) (omega arith) (omega arith)) in
      groups-run (name_definition_of w) (publics w) (bounds w) (first_formal w d) (formal_count w d) d (copied w) m a.0 (omega (arith, b.1))
      (λ x i j. rw (Rattle.table.proofs.Binders.binder-formal w p.ranges p.binding d x l (formals-in d x i j)))

  pub branches-run : (n : ℕ) → member n (node_copies w) ≡ true → is_choice w n ≡ true → Run (node_first w n) (node_second w n) (branch_copies w)
  unfolding appended
  branches-run n m k =
      let t = node_of w n m in
      groups-run (branch_definition w) 0 (branches w) (node_first w n) (node_second w n) (definition w n) (copied w) t.1 (omega arith)
      (omega (arith, Inside.choice-inside w p.ranges n t.0 k))
      (λ b i j. ap (definition w) (Owned.home-is w p.shape n b (record { inside = t.0; choice = k; low = i; high = j })))

  pub arguments-run : (n : ℕ) → member n (node_copies w) ≡ true → is_call_node w n ≡ true → Run (node_second w n) (argument_count_of w n) (argument_copies w)
  unfolding appended
  arguments-run n m k =
      let t = node_of w n m in
      let q : node_second w n + argument_count_of w n ≤ arguments w = rw k (Inside.call-inside w p.ranges n t.0 k).1 in
      groups-run (argument_definition w) 0 (arguments w) (node_second w n) (argument_count_of w n) (definition w n) (copied w) t.1 (omega arith)
      (omega (arith, q))
      (λ a i j. ap (definition w) (Family.caller-is w p n a t.0 k i j))
