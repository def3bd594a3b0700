-- Causes 4 and 5 pass the rewritten table.
use mathlib.Core.Path.{◌≡◌, refl, sym, ◌∙◌}
use mathlib.Core.Bool.{Bool, true, false, not, ◌&&◌, ◌||◌}
use mathlib.Core.List.{List}
use mathlib.Core.Logic.{◌⊎◌, inl, inr}
use Prim.Native.Nat.{ℕ, ◌+◌, ◌-◌, ◌≤◌, ◌<◌}
use native.Mathlib.Decide.{ℕ_discrete}
use native.Mathlib.Omega.{arith}
use lib.Dec.{ltb, leb}
use lib.ListN.{length}
use borrow.Author.Tests.{lt-ltb, le-leb}
use Rattle.lists.specs.Lists.{pick, same, member}
use Rattle.lists.proofs.Tests.{true-or-false, not-true-false, and_intro, same_self, same-yes, same-no, same_true, same_false}
use Rattle.lists.proofs.Ranges.{every-below, below-every, every-all}
use Rattle.scheme.specs.Words.{publics, bounds, definitions, threads, nodes, branches, arguments, names, is_bound_name, name_kind_of, definition_thread, root}
use Rattle.scheme.specs.Words.{first_formal, formal_count, entry, node_kind, node_first, node_second, is_choice, is_new, is_call_node, branch_kind, channel, branch_name}
use Rattle.scheme.specs.Words.{next, is_silent, is_send, is_receive, argument, argument_count_of}
use Rattle.scheme.specs.Owners.{home}
use Rattle.table.specs.Causes.{is_name_kind_right, are_formals_zero, is_node_kind_right, is_branch_kind_right, are_kinds_right}
use Rattle.table.proofs.Inside
use Rattle.table.proofs.Owned
use Rattle.table.proofs.Uses
use Rattle.rewriting.specs.Rewriting.{is_self_calling, copied, caller, name_copies, node_copies, branch_copies, argument_copies, copy_name_of, copy_definition_of}
use Rattle.rewriting.specs.Rewriting.{copy_node_of, rewritten}
use Rattle.rewriting.proofs.Appended.{NewNumber, old, copy, new-number, copy-high}
use Rattle.rewriting.proofs.Runs.{run_inside}
use Rattle.rewriting.proofs.Reading
use Rattle.rewriting.proofs.Family
use Rattle.rewriting.proofs.Family.{Sound, copied-distinct, copied-inside, nodes-distinct, branches-distinct, names-distinct, arguments-distinct}
use Rattle.rewriting.proofs.Family.{node_of, of_node, branch-of, name_of, copy-bound}
-- ---- the kinds of nodes and branches of any table

use Rattle.rewriting.proofs.Fields
use Rattle.rewriting.proofs.Fields.{Kind, stops, chooses, makes, calls, kind-right, zero-call, call-zero, kind-choice, kind-new, kind-call}
use Rattle.table.specs.Causes.{are_ranges_right, are_formals_inside, is_definition_inside, is_entry_inside, is_node_inside, is_branch_inside, is_argument_inside}
use Rattle.table.proofs.Decoded

module _ (u : List ℕ) (n : ℕ) where
  stop-inside : node_kind u n ≡ 0 → is_node_inside u n ≡ true
  unfolding is_node_inside same
  stop-inside k = rw k

  choice-inside : node_kind u n ≡ 1 → node_first u n + node_second u n ≤ branches u → is_node_inside u n ≡ true
  unfolding is_node_inside same
  choice-inside k l = rw k (le-leb _ _ l)

  new-inside : node_kind u n ≡ 2 → is_bound_name u (node_first u n) ≡ true → node_second u n < nodes u → is_node_inside u n ≡ true
  unfolding is_node_inside same
  new-inside k b l = rw (k, b) (lt-ltb _ _ l)

  call-inside : node_kind u n ≡ 3 → node_first u n < definitions u → node_second u n + formal_count u (node_first u n) ≤ arguments u → is_node_inside u n ≡ true
  unfolding is_node_inside same
  call-inside k a l = rw (k, lt-ltb (node_first u n) (definitions u) a) (le-leb _ _ l)

module _ (w : List ℕ) (p : Sound w) where
  -- ---- new numbers of each section

  pub new-definition : (d : ℕ) → d < definitions (rewritten w) → NewNumber (definitions w) (copied w) (copied-distinct w) d
  new-definition d l = new-number (definitions w) (copied w) (copied-distinct w) d (rw (Reading.definitions-new w) at l)

  pub new-node : (n : ℕ) → n < nodes (rewritten w) → NewNumber (nodes w) (node_copies w) (nodes-distinct w) n
  new-node n l = new-number (nodes w) (node_copies w) (nodes-distinct w) n (rw (Reading.nodes-new w) at l)

  pub new-branch : (b : ℕ) → b < branches (rewritten w) → NewNumber (branches w) (branch_copies w) (branches-distinct w) b
  new-branch b l = new-number (branches w) (branch_copies w) (branches-distinct w) b (rw (Reading.branches-new w) at l)

  pub new-argument : (a : ℕ) → a < arguments (rewritten w) → NewNumber (arguments w) (argument_copies w) (arguments-distinct w) a
  new-argument a l = new-number (arguments w) (argument_copies w) (arguments-distinct w) a (rw (Reading.arguments-new w) at l)

  pub new-name : (x : ℕ) → x < names (rewritten w) → NewNumber (names w) (name_copies w) (names-distinct w) x
  new-name x l = new-number (names w) (name_copies w) (names-distinct w) x (rw (Reading.names-new w) at l)

  -- ---- cause 4

  name-kinds : (x : ℕ) → publics (rewritten w) ≤ x → x < names (rewritten w) → is_name_kind_right (rewritten w) x ≡ true
  unfolding is_name_kind_right
  name-kinds x l u = go (new-name x u)
    where
      go : NewNumber (names w) (name_copies w) (names-distinct w) x → leb (name_kind_of (rewritten w) x) 2 ≡ true
      go (old i) = let j : publics w ≤ x = rw (Reading.publics-new w) at l in rw (Reading.name-old w x j i) (le-leb _ _ (Decoded.name-kind w p.kinds x j i))
      go (copy y m e) = rw (e, Reading.name-copy w y m) (le-leb _ _ (Decoded.name-kind w p.kinds y (name_of w y m).0 (name_of w y m).1))

  formal-zeros : (d : ℕ) → d < definitions (rewritten w) → are_formals_zero (rewritten w) d ≡ true
  unfolding are_formals_zero
  formal-zeros d l = go (new-definition d l)
    where
      go : NewNumber (definitions w) (copied w) (copied-distinct w) d
          → (not (same (formal_count (rewritten w) d) 0) || same (first_formal (rewritten w) d) 0) ≡ true
      go (old i) = rw (Reading.formal_count-old w d i, Reading.first_formal-old w d i) (every-below (are_formals_zero w) (definitions w) (Fields.kinds w p).1 d i)
      go (copy c m e) = rw (e, Reading.formal_count-copy w c m, Reading.first_formal-copy w c m) (zero (same (formal_count w c) 0))
        where
          zero : (b : Bool) → (not b || same (pick b 0 (copy_name_of w (first_formal w c))) 0) ≡ true
          zero true = same_self 0
          zero false = refl

  node-kinds : (n : ℕ) → n < nodes (rewritten w) → Kind (rewritten w) n
  node-kinds n l = go (new-node n l)
    where
      on-old : (i : n < nodes w) → Kind w n → Kind (rewritten w) n
      on-old i (stops k a b) = stops (Reading.node_kind-old w n i ∙ k) (Reading.node_first-old w n i ∙ plain k ∙ a) (Reading.node_second-old w n i ∙ b)
        where
          plain : node_kind w n ≡ 0 → pick (is_self_calling w n) (copy_definition_of w (node_first w n)) (node_first w n) ≡ node_first w n
          plain k = rw (not-true-false (is_self_calling w n) (λ c. let z = same_true _ _ (Fields.itself w p n c).0 in omega (arith, z, k)))
      on-old i (chooses k d) = chooses (Reading.node_kind-old w n i ∙ k) (λ z. d (sym (Reading.node_second-old w n i) ∙ z))
      on-old i (makes k) = makes (Reading.node_kind-old w n i ∙ k)
      on-old i (calls k c) =
          let t = Fields.target-old w p n i (kind-call w n k) in
          let q = (Inside.call-inside w p.ranges n i (kind-call w n k)).0 in
          calls (Reading.node_kind-old w n i ∙ k) (zero-call (rewritten w) n (λ z. Reading.node_second-old w n i ∙ call-zero w n q c (sym t.count ∙ z)))

      on-copy : (m : ℕ) → member m (node_copies w) ≡ true → Kind w m → Kind (rewritten w) (copy_node_of w m)
      on-copy m i (stops k a b) =
          let ns : is_new w m ≡ false = rw k (same-no 0 2 (λ e. omega arith)) in
          let nc : is_choice w m ≡ false = rw k (same-no 0 1 (λ e. omega arith)) in
          let nl : is_call_node w m ≡ false = rw k (same-no 0 3 (λ e. omega arith)) in
          stops (Reading.node_kind-copy w m i ∙ k) (Reading.node_first-copy w m i ∙ rw (nc, ns) a) (Fields.plain_copy w p m i ns (rw nl) ∙ b)
      on-copy m i (chooses k d) =
          let c = kind-choice w m k in
          chooses (Reading.node_kind-copy w m i ∙ k)
          (λ z. d (sym (Fields.plain_copy w p m i (Inside.choice-not-new w m c) (rw (Inside.choice-not-call w m c))) ∙ z))
      on-copy m i (makes k) = makes (Reading.node_kind-copy w m i ∙ k)
      on-copy m i (calls k c) =
          let t = Fields.target-copy w p m i (kind-call w m k) in
          let q = (Inside.call-inside w p.ranges m (node_of w m i).0 (kind-call w m k)).0 in
          calls (Reading.node_kind-copy w m i ∙ k)
          (zero-call (rewritten w) (copy_node_of w m)
          (λ z.
          let e : formal_count w (node_first w m) ≡ 0 = sym t.count ∙ z in
          Fields.plain_copy w p m i (Inside.call-not-new w m (kind-call w m k)) (rw (kind-call w m k) e) ∙ call-zero w m q c e))

      go : NewNumber (nodes w) (node_copies w) (nodes-distinct w) n → Kind (rewritten w) n
      go (old i) = on-old i (Fields.kind w p n i)
      go (copy m i e) = rw e (on-copy m i (Fields.kind w p m (node_of w m i).0))

  branch-kinds : (b : ℕ) → b < branches (rewritten w) → is_branch_kind_right (rewritten w) b ≡ true
  unfolding is_branch_kind_right
  branch-kinds b l = go (new-branch b l)
    where
      right : (b : ℕ) → b < branches w → is_branch_kind_right w b ≡ true
      right b i = every-below (is_branch_kind_right w) (branches w) (Fields.kinds w p).3 b i

      go : NewNumber (branches w) (branch_copies w) (branches-distinct w) b
          → pick (is_silent (rewritten w) b) (same (channel (rewritten w) b) 0 && same (branch_name (rewritten w) b) 0) (leb (branch_kind (rewritten w) b) 2)
          ≡ true
      go (old i) = rw (Reading.branch_kind-old w b i, Reading.channel-old w b i, Reading.branch_name-old w b i) (right b i)
      go (copy c m e) =
          rw (e, Reading.branch_kind-copy w c m, Reading.channel-copy w c m, Reading.branch_name-copy w c m)
          (quiet (is_silent w c) (right c (branch-of w c m).0))
        where
          quiet : (β : Bool) → pick β (same (channel w c) 0 && same (branch_name w c) 0) (leb (branch_kind w c) 2) ≡ true
              → pick β (same (pick β (channel w c) (copy_name_of w (channel w c))) 0 && same (pick β (branch_name w c) (copy_name_of w (branch_name w c))) 0)
              (leb (branch_kind w c) 2) ≡ true
          quiet true h = h
          quiet false h = h

  pub kinds-new : are_kinds_right (rewritten w) ≡ true
  unfolding are_kinds_right
  kinds-new =
      and_intro _ _ (every-all (is_name_kind_right (rewritten w)) (publics (rewritten w)) (bounds (rewritten w)) name-kinds)
      (and_intro _ _ (below-every (are_formals_zero (rewritten w)) (definitions (rewritten w)) formal-zeros)
      (and_intro _ _ (below-every (is_node_kind_right (rewritten w)) (nodes (rewritten w)) (λ n l. kind-right (rewritten w) n (node-kinds n l)))
      (below-every (is_branch_kind_right (rewritten w)) (branches (rewritten w)) branch-kinds)))

  -- ---- cause 5

  abbrev m≤ : nodes w ≤ nodes (rewritten w)
  m≤ = omega (arith, Reading.nodes-new w)

  pub copied-node : (n : ℕ) → member n (node_copies w) ≡ true → copy_node_of w n < nodes (rewritten w)
  copied-node n m = rw (Reading.nodes-new w) (copy-high (nodes w) (node_copies w) (nodes-distinct w) n m)

  bound-new : (x : ℕ) → member x (name_copies w) ≡ true → is_bound_name (rewritten w) (copy_name_of w x) ≡ true
  bound-new x m =
      and_intro _ _
      (le-leb (publics (rewritten w)) (copy_name_of w x) (rw (copy-bound w x (name_of w x m).0, Reading.publics-new w) (omega arith)))
      (lt-ltb _ _ (Fields.name-inside w p x (name_of w x m).1 (inr m)))

  -- names used in a copied definition
  pub channel-copied : (b : ℕ) → member b (branch_copies w) ≡ true → is_silent w b ≡ false
      → (channel w b < publics w) ⊎ (member (channel w b) (name_copies w) ≡ true)
  channel-copied b m s =
      Fields.used-copied w p (home w b) (channel w b) (Family.home-copied w p b m)
      (Uses.channel-usable w p.scope (home w b) b (Owned.home-has w p.shape b (branch-of w b m).0) s)

  pub sent-copied : (b : ℕ) → member b (branch_copies w) ≡ true → is_silent w b ≡ false → is_receive w b ≡ false
      → (branch_name w b < publics w) ⊎ (member (branch_name w b) (name_copies w) ≡ true)
  sent-copied b m s r =
      Fields.used-copied w p (home w b) (branch_name w b) (Family.home-copied w p b m)
      (Uses.sent-usable w p.scope (home w b) b (Owned.home-has w p.shape b i) k)
    where
      i : b < branches w
      i = (branch-of w b m).0

      k : is_send w b ≡ true
      k =
          let l = Decoded.branch-kind w p.kinds b i in
          let x : branch_kind w b ≡ 0 → ⊥ = same_false _ _ s in
          let y : branch_kind w b ≡ 2 → ⊥ = same_false _ _ r in
          same-yes (branch_kind w b) 1 (omega (arith, l, x, y))

  pub argument-used : (a : ℕ) → member a (argument_copies w) ≡ true → (argument w a < publics w) ⊎ (member (argument w a) (name_copies w) ≡ true)
  argument-used a m =
      let t = Family.argument-of w a m in
      let c = Fields.caller-has w p a t.0 in
      Fields.used-copied w p (caller w a) (argument w a) (of_node w (caller w a) c.inside t.1)
      (Uses.argument-usable w p.scope (caller w a) (argument w a) c.inside c.calls (Fields.argument-in w p (caller w a) a c))

  -- the first word of an old node that is no Call
  pub first : (n : ℕ) → n < nodes w → {k : ℕ} → node_kind w n ≡ k → (k ≡ 3 → ⊥) → node_first (rewritten w) n ≡ node_first w n
  first n i {k} e d =
      Reading.node_first-old w n i ∙ rw (not-true-false (is_self_calling w n) (λ c. d (sym e ∙ same_true _ _ (Fields.itself w p n c).0)))

  definition-insides : (d : ℕ) → d < definitions (rewritten w) → is_definition_inside (rewritten w) d ≡ true
  unfolding is_definition_inside are_formals_inside
  definition-insides d l = go (new-definition d l)
    where
      spans : (c : ℕ) → c < definitions w → (formal_count w c ≡ 0 → ⊥) → (publics w ≤ first_formal w c) × (first_formal w c + formal_count w c ≤ names w)
      spans c i z =
          let a = Inside.formals-inside w p.ranges c (first_formal w c) i (Fields.formals-in w p c (first_formal w c) (omega arith) (omega arith)) in
          let b =
          Inside.formals-inside w p.ranges c (first_formal w c + (formal_count w c - 1)) i
          (Fields.formals-in w p c (first_formal w c + (formal_count w c - 1)) (omega arith) (omega arith)) in
          (a.0, omega (arith, b.1))

      inside : (from' count : ℕ) → ((count ≡ 0 → ⊥) → (publics (rewritten w) ≤ from') × (from' + count ≤ names (rewritten w)))
          → (same count 0 || (leb (publics (rewritten w)) from' && leb (from' + count) (names (rewritten w)))) ≡ true
      inside from' count f = at (ℕ_discrete count 0)
        where
          at : Dec (count ≡ 0) → (same count 0 || (leb (publics (rewritten w)) from' && leb (from' + count) (names (rewritten w)))) ≡ true
          at (yes e) = rw (same-yes count 0 e)
          at (no e) = rw (same-no count 0 e) (and_intro _ _ (le-leb _ _ (f e).0) (le-leb _ _ (f e).1))

      go : NewNumber (definitions w) (copied w) (copied-distinct w) d
          → (ltb (definition_thread (rewritten w) d) (threads (rewritten w)) && (ltb (root (rewritten w) d) (nodes (rewritten w)) &&
          (same (formal_count (rewritten w) d) 0 ||
          (leb (publics (rewritten w)) (first_formal (rewritten w) d) && leb (first_formal (rewritten w) d + formal_count (rewritten w) d)
          (names (rewritten w)))))) ≡ true
      go (old i) =
          rw (Reading.definition_thread-old w d i, Reading.root-old w d i, Reading.formal_count-old w d i, Reading.first_formal-old w d i)
          (and_intro _ _ (lt-ltb (definition_thread w d) (threads (rewritten w)) (rw (Reading.threads-new w) (Inside.thread-inside w p.ranges d i)))
          (and_intro _ _ (lt-ltb (root w d) (nodes (rewritten w)) (omega (arith, Inside.root-inside w p.ranges d i, Reading.nodes-new w)))
          (inside (first_formal w d) (formal_count w d)
          (λ z. (rw (Reading.publics-new w) (spans d i z).0, omega (arith, (spans d i z).1, Reading.names-new w))))))
      go (copy c m e) =
          rw (e, Reading.definition_thread-copy w c m, Reading.root-copy w c m, Reading.formal_count-copy w c m, Reading.first_formal-copy w c m)
          (and_intro _ _ (lt-ltb (definition_thread w c) (threads (rewritten w))
          (rw (Reading.threads-new w) (Inside.thread-inside w p.ranges c (copied-inside w c m))))
          (and_intro _ _ (lt-ltb _ _ (copied-node (root w c) (Family.root-copied w p c m)))
          (inside (pick (same (formal_count w c) 0) 0 (copy_name_of w (first_formal w c))) (formal_count w c)
          (λ z.
          let s = spans c (copied-inside w c m) z in
          let r = run_inside (first_formal w c) (formal_count w c) (name_copies w) (names-distinct w) (Fields.formals-run w p c m z) (omega arith) in
          rw (same-no (formal_count w c) 0 z, copy-bound w (first_formal w c) s.0, Reading.names-new w, Reading.publics-new w)
          (omega arith, omega (arith, r))))))

  entry-insides : (t : ℕ) → t < threads (rewritten w) → is_entry_inside (rewritten w) t ≡ true
  unfolding is_entry_inside
  entry-insides t l =
      let i : t < threads w = rw (Reading.threads-new w) at l in
      lt-ltb (entry (rewritten w) t) (definitions (rewritten w))
      (rw (Reading.entry_old w t i) (omega (arith, Inside.entry-inside w p.ranges t i, Reading.definitions-new w)))

  node-insides : (n : ℕ) → n < nodes (rewritten w) → is_node_inside (rewritten w) n ≡ true
  node-insides n l = go (new-node n l)
    where
      go : NewNumber (nodes w) (node_copies w) (nodes-distinct w) n → is_node_inside (rewritten w) n ≡ true
      go (old i) = at (Fields.kind w p n i)
        where
          at : Kind w n → is_node_inside (rewritten w) n ≡ true
          at (stops k a b) = stop-inside (rewritten w) n (Reading.node_kind-old w n i ∙ k)
          at (chooses k d) =
              choice-inside (rewritten w) n (Reading.node_kind-old w n i ∙ k)
              (rw (first n i k (λ z. omega arith), Reading.node_second-old w n i)
              (omega (arith, Inside.choice-inside w p.ranges n i (kind-choice w n k), Reading.branches-new w)))
          at (makes k) =
              let q = Inside.new-inside w p.ranges n i (kind-new w n k) in
              let x = Inside.bound-inside w (node_first w n) q.0 in
              new-inside (rewritten w) n (Reading.node_kind-old w n i ∙ k)
              (rw (first n i k (λ z. omega arith))
              (and_intro _ _ (le-leb (publics (rewritten w)) (node_first w n) (rw (Reading.publics-new w) x.0))
              (lt-ltb (node_first w n) (names (rewritten w)) (omega (arith, x.1, Reading.names-new w)))))
              (rw (Reading.node_second-old w n i) (omega (arith, q.1, Reading.nodes-new w)))
          at (calls k c) =
              let t = Fields.target-old w p n i (kind-call w n k) in
              call-inside (rewritten w) n (Reading.node_kind-old w n i ∙ k) t.inside
              (rw (t.count, Reading.node_second-old w n i) (omega (arith, (Inside.call-inside w p.ranges n i (kind-call w n k)).1, Reading.arguments-new w)))
      go (copy m i e) = rw e (at (Fields.kind w p m (node_of w m i).0))
        where
          at : Kind w m → is_node_inside (rewritten w) (copy_node_of w m) ≡ true
          at (stops k a b) = stop-inside (rewritten w) (copy_node_of w m) (Reading.node_kind-copy w m i ∙ k)
          at (chooses k d) =
              let c = kind-choice w m k in
              choice-inside (rewritten w) (copy_node_of w m) (Reading.node_kind-copy w m i ∙ k)
              (rw (
                Fields.choice-copy w p m i c,
                Fields.plain_copy w p m i (Inside.choice-not-new w m c) (rw (Inside.choice-not-call w m c)),
                Reading.branches-new w,
              )
              (omega (
                arith,
                run_inside (node_first w m) (node_second w m) (branch_copies w) (branches-distinct w) (Fields.branches-run w p m i c)
                    (omega arith),
              )))
          at (makes k) =
              let c = kind-new w m k in
              new-inside (rewritten w) (copy_node_of w m) (Reading.node_kind-copy w m i ∙ k)
              (rw (Fields.new-copy w p m i c) (bound-new (node_first w m) (Family.new-copied w p m i c)))
              (rw (Fields.child-copy w p m i c) (copied-node (node_second w m) (Family.child-copied w p m i c)))
          at (calls k c) =
              let q = kind-call w m k in
              let t = Fields.target-copy w p m i q in
              call-inside (rewritten w) (copy_node_of w m) (Reading.node_kind-copy w m i
              ∙ k) t.inside (rw (t.count, Reading.arguments-new w) (span q (ℕ_discrete (formal_count w (node_first w m)) 0)))
            where
              span : is_call_node w m ≡ true → Dec (formal_count w (node_first w m) ≡ 0)
                  → node_second (rewritten w) (copy_node_of w m) + formal_count w (node_first w m) ≤ arguments w + length (argument_copies w)
              span q (yes z) =
                  rw (Fields.plain_copy w p m i (Inside.call-not-new w m q) (rw q z))
                  (omega (arith, (Inside.call-inside w p.ranges m (node_of w m i).0 q).1))
              span q (no z) =
                  let g : argument_count_of w m ≡ formal_count w (node_first w m) = rw q in
                  rw (Fields.arguments-copy w p m i (Inside.call-not-new w m q) (λ y. z (sym g ∙ y)))
                  (omega (
                    arith,
                    g,
                    run_inside (node_second w m) (argument_count_of w m) (argument_copies w) (arguments-distinct w)
                        (Fields.arguments-run w p m i q) (omega (arith, g)),
                  ))

  branch-insides : (b : ℕ) → b < branches (rewritten w) → is_branch_inside (rewritten w) b ≡ true
  unfolding is_branch_inside
  branch-insides b l = go (new-branch b l)
    where
      go : NewNumber (branches w) (branch_copies w) (branches-distinct w) b
          → (ltb (next (rewritten w) b) (nodes (rewritten w)) && pick (is_silent (rewritten w) b) true
          (ltb (channel (rewritten w) b) (names (rewritten w)) &&
          pick (is_receive (rewritten w) b) (is_bound_name (rewritten w) (branch_name (rewritten w) b)) (ltb (branch_name (rewritten w) b) (names (rewritten w)))))
          ≡ true
      go (old i) =
          rw (Reading.branch_kind-old w b i, Reading.channel-old w b i, Reading.branch_name-old w b i, Reading.next-old w b i)
          (and_intro _ _ (lt-ltb (next w b) (nodes (rewritten w)) (omega (arith, Inside.next-inside w p.ranges b i, Reading.nodes-new w)))
          (at (true-or-false (is_silent w b)) (true-or-false (is_receive w b))))
        where
          at : (is_silent w b ≡ true) ⊎ (is_silent w b ≡ false) → (is_receive w b ≡ true) ⊎ (is_receive w b ≡ false)
              → pick (is_silent w b) true (ltb (channel w b) (names (rewritten w)) &&
              pick (is_receive w b) (is_bound_name (rewritten w) (branch_name w b)) (ltb (branch_name w b) (names (rewritten w)))) ≡ true
          at (inl s) r = rw s
          at (inr s) (inl r) =
              let x = Inside.bound-inside w (branch_name w b) (Inside.receive_inside w p.ranges b i r) in
              rw (s, r)
              (and_intro _ _ (lt-ltb (channel w b) (names (rewritten w)) (omega (arith, Inside.channel-inside w p.ranges b i s, Reading.names-new w)))
              (and_intro _ _ (le-leb (publics (rewritten w)) (branch_name w b) (rw (Reading.publics-new w) x.0))
              (lt-ltb (branch_name w b) (names (rewritten w)) (omega (arith, x.1, Reading.names-new w)))))
          at (inr s) (inr r) =
              rw (s, r)
              (and_intro _ _ (lt-ltb (channel w b) (names (rewritten w)) (omega (arith, Inside.channel-inside w p.ranges b i s, Reading.names-new w)))
              (lt-ltb (branch_name w b) (names (rewritten w)) (omega (arith, Inside.name-inside w p.ranges b i s, Reading.names-new w))))
      go (copy c m e) =
          rw (e, Reading.branch_kind-copy w c m, Reading.channel-copy w c m, Reading.branch_name-copy w c m, Reading.next-copy w c m)
          (and_intro _ _ (lt-ltb _ _ (copied-node (next w c) (Family.next-copied w p c m)))
          (at (true-or-false (is_silent w c)) (true-or-false (is_receive w c))))
        where
          i : c < branches w
          i = (branch-of w c m).0

          at : (is_silent w c ≡ true) ⊎ (is_silent w c ≡ false) → (is_receive w c ≡ true) ⊎ (is_receive w c ≡ false)
              → pick (is_silent w c) true (ltb (pick (is_silent w c) (channel w c) (copy_name_of w (channel w c))) (names (rewritten w)) &&
              pick (is_receive w c) (is_bound_name (rewritten w) (pick (is_silent w c) (branch_name w c) (copy_name_of w (branch_name w c))))
              (ltb (pick (is_silent w c) (branch_name w c) (copy_name_of w (branch_name w c))) (names (rewritten w)))) ≡ true
          at (inl s) r = rw s
          at (inr s) (inl r) =
              rw (s, r)
              (and_intro _ _ (lt-ltb _ _ (Fields.name-inside w p (channel w c) (Inside.channel-inside w p.ranges c i s) (channel-copied c m s)))
              (bound-new (branch_name w c) (Family.receive-copied w p c m r)))
          at (inr s) (inr r) =
              rw (s, r)
              (and_intro _ _ (lt-ltb _ _ (Fields.name-inside w p (channel w c) (Inside.channel-inside w p.ranges c i s) (channel-copied c m s)))
              (lt-ltb _ _ (Fields.name-inside w p (branch_name w c) (Inside.name-inside w p.ranges c i s) (sent-copied c m s r))))

  argument-insides : (a : ℕ) → a < arguments (rewritten w) → is_argument_inside (rewritten w) a ≡ true
  unfolding is_argument_inside
  argument-insides a l = go (new-argument a l)
    where
      go : NewNumber (arguments w) (argument_copies w) (arguments-distinct w) a → ltb (argument (rewritten w) a) (names (rewritten w)) ≡ true
      go (old i) = lt-ltb (argument (rewritten w) a) (names (rewritten w))
          (rw (Reading.argument-old w a i) (omega (arith, Inside.argument-inside w p.ranges a i, Reading.names-new w)))
      go (copy c m e) =
          lt-ltb (argument (rewritten w) a) (names (rewritten w)) (rw (e, Reading.argument-copy w c m)
          (Fields.name-inside w p (argument w c) (Inside.argument-inside w p.ranges c (Family.argument-of w c m).0) (argument-used c m)))

  pub ranges-new : are_ranges_right (rewritten w) ≡ true
  unfolding are_ranges_right
  ranges-new =
      and_intro _ _ (below-every (is_definition_inside (rewritten w)) (definitions (rewritten w)) definition-insides)
      (and_intro _ _ (below-every (is_entry_inside (rewritten w)) (threads (rewritten w)) entry-insides)
      (and_intro _ _ (below-every (is_node_inside (rewritten w)) (nodes (rewritten w)) node-insides)
      (and_intro _ _ (below-every (is_branch_inside (rewritten w)) (branches (rewritten w)) branch-insides)
      (below-every (is_argument_inside (rewritten w)) (arguments (rewritten w)) argument-insides))))
