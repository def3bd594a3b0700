-- The rewritten table reads as the college's: what it says of a number, the college's table says of the number's origin.
use mathlib.Core.Path.{◌≡◌, refl, sym, ap, ◌∙◌}
use mathlib.Core.Bool.{true, false, ◌&&◌}
use mathlib.Core.List.{List, [], ◌∷◌, ◌++◌, map}
use mathlib.Core.Logic.{◌⊎◌, inl, inr}
use Prim.Native.Nat.{ℕ, ◌+◌, ◌≤◌, ◌<◌}
use native.Mathlib.Decide.{ℕ_discrete, dec_lt}
use native.Mathlib.Omega.{arith}
use lib.Dec.{ltb}
use borrow.Author.Tests.{lt-ltb}
use Rattle.lists.specs.Lists.{pick, same, word, range, member}
use Rattle.lists.proofs.Tests.{true-or-false, same-yes, same-no, same_true}
use Rattle.lists.proofs.Members.{member-map}
use Rattle.scheme.specs.Words.{publics, definitions, threads, nodes, branches, names, root, formals, entry, node_kind, node_first, node_second}
use Rattle.scheme.specs.Words.{is_choice, is_call_node, branch_kind, channel, branch_name, next, is_silent, is_receive, arguments_of}
use Rattle.scheme.specs.Owners.{home, definition, held}
use Rattle.table.specs.Inner.Shaped.{BranchOf}
use Rattle.table.proofs.Inside
use Rattle.table.proofs.Owned
use Rattle.table.proofs.Uses
use Rattle.table.proofs.Uses.{Usable}
use Rattle.process.specs.StateWords.{place}
use Rattle.rewriting.specs.Rewriting.{is_self_calling, copied, name_copies, node_copies, branch_copies, copy_name_of, copy_definition_of, copy_node_of, copy_branch_of}
use Rattle.rewriting.specs.Rewriting.{rewritten}
use Rattle.rewriting.proofs.Appended.{NewNumber, old, copy, copy-high}
use Rattle.rewriting.proofs.Runs.{run-next}
use Rattle.rewriting.proofs.Reading
use Rattle.rewriting.proofs.Family
use Rattle.rewriting.proofs.Family.{Sound, copied-distinct, copied-inside, self-copied, nodes-distinct, branches-distinct, names-distinct, node_of}
use Rattle.rewriting.proofs.Family.{of_node, branch-of, name_of, copy-bound, copy-public}
use Rattle.rewriting.proofs.Fields
use Rattle.rewriting.proofs.Fields.{Kind, stops, chooses, makes, calls, kind-choice, kind-new, kind-call}
use Rattle.rewriting.proofs.Insides
use Rattle.rewriting.proofs.Spans
use Rattle.lists.proofs.Members.{member-nil, map-member}
use Rattle.table.specs.Causes.{is_binding_right}
use Rattle.table.proofs.Binders
use Rattle.rewriting.proofs.Shapes
use Rattle.rewriting.proofs.Bindings
use Rattle.scheme.specs.Owners.{thread}
use Rattle.table.proofs.Decoded
use Rattle.rewriting.proofs.Scopes
use Rattle.rewriting.proofs.Following.{Reads, read_node, read_branch}
use Rattle.rewriting.specs.Rewriting.{node_origins, branch_origins, name_origins}
use Rattle.rewriting.proofs.Appended.{origin-old, origin_copy}
use Rattle.scheme.specs.Scheme.{stop, choice, new, call, silent, send, receive, present, scheme, node_at, branch_at, arguments_from, binder_of, binder_thread}
use Rattle.scheme.specs.Scheme.{by_new, by_receive, by_formal}
use Rattle.table.specs.Accepted.{Chosen}
use Rattle.table.proofs.Binders.{Bound, by-new, by-receive, by-formal}
use Rattle.table.proofs.Trees

-- ---- nodes and branches decoded by kind

module _ (u : List ℕ) (n : ℕ) (l : n < nodes u) where
  stop-at : node_kind u n ≡ 0 → node_at u n ≡ stop
  unfolding node_at same
  stop-at k = rw (lt-ltb n (nodes u) l, k)

  choice-at : node_kind u n ≡ 1 → node_at u n ≡ choice (node_first u n) (node_second u n)
  unfolding node_at same
  choice-at k = rw (lt-ltb n (nodes u) l, k)

  new-at : node_kind u n ≡ 2 → node_at u n ≡ new (node_first u n) (node_second u n)
  unfolding node_at same
  new-at k = rw (lt-ltb n (nodes u) l, k)

  call_at : node_kind u n ≡ 3 → node_at u n ≡ call (node_first u n)
  unfolding node_at same
  call_at k = rw (lt-ltb n (nodes u) l, k)

module _ (u : List ℕ) (b : ℕ) (l : b < branches u) where
  silent-at : branch_kind u b ≡ 0 → branch_at u b ≡ silent (next u b)
  unfolding branch_at same
  silent-at k = rw (lt-ltb b (branches u) l, k)

  send_at : branch_kind u b ≡ 1 → branch_at u b ≡ send (channel u b) (branch_name u b) (next u b)
  unfolding branch_at same
  send_at k = rw (lt-ltb b (branches u) l, k)

  receive-at : branch_kind u b ≡ 2 → branch_at u b ≡ receive (channel u b) (branch_name u b) (next u b)
  unfolding branch_at same
  receive-at k = rw (lt-ltb b (branches u) l, k)

map-self : (f : ℕ → ℕ) (xs : List ℕ) → ((x : ℕ) → member x xs ≡ true → f x ≡ x) → map f xs ≡ xs
map-self f [] h = refl
map-self f (x ∷ xs) h = rw (h x (Rattle.lists.proofs.Members.member-here x xs), map-self f xs (λ y m. h y (Rattle.lists.proofs.Members.member-there y x xs m)))

map_back : (f g : ℕ → ℕ) (xs : List ℕ) → ((x : ℕ) → member x xs ≡ true → f (g x) ≡ x) → map f (map g xs) ≡ xs
map_back f g [] h = refl
map_back f g (x ∷ xs) h =
    rw (h x (Rattle.lists.proofs.Members.member-here x xs), map_back f g xs (λ y m. h y (Rattle.lists.proofs.Members.member-there y x xs m)))

-- the definition that a number of the rewritten table is, or is a copy of
unfoldable pub definition_origins : List ℕ → List ℕ
definition_origins w = range (definitions w) ++ copied w

module _ (w : List ℕ) (p : Sound w) where
  abbrev oN : ℕ → ℕ
  oN = word (node_origins w)

  abbrev oB : ℕ → ℕ
  oB = word (branch_origins w)

  abbrev oX : ℕ → ℕ
  oX = word (name_origins w)

  abbrev oD : ℕ → ℕ
  oD = word (definition_origins w)

  node-self : (n : ℕ) → n < nodes w → oN n ≡ n
  unfolding node_origins
  node-self n l = origin-old (nodes w) (node_copies w) (nodes-distinct w) n l

  node-origin : (n : ℕ) → member n (node_copies w) ≡ true → oN (copy_node_of w n) ≡ n
  unfolding node_origins
  node-origin n m = origin_copy (nodes w) (node_copies w) (nodes-distinct w) n m

  branch-self : (b : ℕ) → b < branches w → oB b ≡ b
  unfolding branch_origins
  branch-self b l = origin-old (branches w) (branch_copies w) (branches-distinct w) b l

  branch-origin : (b : ℕ) → member b (branch_copies w) ≡ true → oB (copy_branch_of w b) ≡ b
  unfolding branch_origins
  branch-origin b m = origin_copy (branches w) (branch_copies w) (branches-distinct w) b m

  name-self : (x : ℕ) → x < names w → oX x ≡ x
  unfolding name_origins
  name-self x l = origin-old (names w) (name_copies w) (names-distinct w) x l

  name-origin' : (x : ℕ) → member x (name_copies w) ≡ true → oX (names w + place x (name_copies w)) ≡ x
  unfolding name_origins
  name-origin' x m = origin_copy (names w) (name_copies w) (names-distinct w) x m

  name-origin : (x : ℕ) → (x < publics w) ⊎ (member x (name_copies w) ≡ true) → oX (copy_name_of w x) ≡ x
  name-origin x (inl l) = rw (copy-public w x l) (name-self x (omega arith))
  name-origin x (inr m) = rw (copy-bound w x (name_of w x m).0) (name-origin' x m)

  definition-self : (d : ℕ) → d < definitions w → oD d ≡ d
  unfolding definition_origins
  definition-self d l = origin-old (definitions w) (copied w) (copied-distinct w) d l

  definition-origin : (d : ℕ) → member d (copied w) ≡ true → oD (copy_definition_of w d) ≡ d
  unfolding definition_origins
  definition-origin d m = origin_copy (definitions w) (copied w) (copied-distinct w) d m

  -- ---- threads

  thread-old : (n : ℕ) → n < nodes w → thread (rewritten w) n ≡ thread w n
  thread-old n l = rw (Scopes.placed w p n l).definition-old (Reading.definition_thread-old w (definition w n) (Family.definition-inside w p n))

  thread-copy : (n : ℕ) → member n (node_copies w) ≡ true → thread (rewritten w) (copy_node_of w n) ≡ thread w n
  thread-copy n m = rw ((Scopes.placed w p n (node_of w n m).0).definition-copy m) (Reading.definition_thread-copy w (definition w n) (node_of w n m).1)

  home-old : (b : ℕ) → b < branches w → home (rewritten w) b ≡ home w b
  home-old b l = Owned.home-is (rewritten w) (Shapes.shape-new w p) (home w b) b (Scopes.branch-old w p (home w b) b (Owned.home-has w p.shape b l))

  home-copy : (b : ℕ) → member b (branch_copies w) ≡ true → home (rewritten w) (copy_branch_of w b) ≡ copy_node_of w (home w b)
  home-copy b m =
      Owned.home-is (rewritten w) (Shapes.shape-new w p) (copy_node_of w (home w b)) (copy_branch_of w b)
      (Scopes.branch-copy w p (home w b) b (Family.home-copied w p b m) (Owned.home-has w p.shape b (branch-of w b m).0))

  -- ---- the thread of a name

  abbrev rr : Rattle.table.specs.Causes.are_ranges_right (rewritten w) ≡ true
  rr = Insides.ranges-new w p

  abbrev rb : is_binding_right (rewritten w) ≡ true
  rb = Bindings.binding-new w p

  old-node : (n : ℕ) → n < nodes w → n < nodes (rewritten w)
  old-node n l = omega (arith, Reading.nodes-new w)

  old-branch : (b : ℕ) → b < branches w → b < branches (rewritten w)
  old-branch b l = omega (arith, Reading.branches-new w)

  copied-branch : (b : ℕ) → member b (branch_copies w) ≡ true → copy_branch_of w b < branches (rewritten w)
  copied-branch b m = rw (Reading.branches-new w) (copy-high (branches w) (branch_copies w) (branches-distinct w) b m)

  copied-definition : (d : ℕ) → member d (copied w) ≡ true → copy_definition_of w d < definitions (rewritten w)
  copied-definition d m = rw (Reading.definitions-new w) (copy-high (definitions w) (copied w) (copied-distinct w) d m)

  old-name : (x : ℕ) → publics w ≤ x → x < names w → Bound w x → binder_thread (rewritten w) (binder_of (rewritten w) x) ≡ binder_thread w (binder_of w x)
  old-name x l u (by-new n i k e) =
      let a : binder_of (rewritten w) (node_first (rewritten w) n) ≡ by_new n =
      Binders.binder-new (rewritten w) rr rb n (old-node n i) (rw (Reading.node_kind-old w n i) k) in
      let f : node_first (rewritten w) n ≡ x = Insides.first w p n i (same_true _ _ k) (λ z. omega arith) ∙ e in
      let c : binder_of w x ≡ by_new n = rw e at (Binders.binder-new w p.ranges p.binding n i k) in
      let g : binder_of (rewritten w) x ≡ by_new n = rw f at a in
      rw (g, c) (thread-old n i)
  old-name x l u (by-receive b i k e) =
      let a : binder_of (rewritten w) (branch_name (rewritten w) b) ≡ by_receive b =
      Binders.binder-receive (rewritten w) rr rb b (old-branch b i) (rw (Reading.branch_kind-old w b i) k) in
      let f : branch_name (rewritten w) b ≡ x = Reading.branch_name-old w b i ∙ e in
      let c : binder_of w x ≡ by_receive b = rw e at (Binders.binder-receive w p.ranges p.binding b i k) in
      let g : binder_of (rewritten w) x ≡ by_receive b = rw f at a in
      rw (g, c, home-old b i) (thread-old (home w b) (Owned.home-has w p.shape b i).inside)
  old-name x l u (by-formal d i k) =
      let g : binder_of (rewritten w) x ≡ by_formal d =
      Binders.binder-formal (rewritten w) rr rb d x (omega (arith, Reading.definitions-new w)) (rw (Spans.formals-old w p d i) k) in
      let c : binder_of w x ≡ by_formal d = Binders.binder-formal w p.ranges p.binding d x i k in
      rw (g, c) (Reading.definition_thread-old w d i)

  copied-name : (x : ℕ) → member x (name_copies w) ≡ true → Bound w x
      → binder_thread (rewritten w) (binder_of (rewritten w) (copy_name_of w x)) ≡ binder_thread w (binder_of w x)
  copied-name x m (by-new n i k e) =
      let c : binder_of w x ≡ by_new n = rw e at (Binders.binder-new w p.ranges p.binding n i k) in
      let q : member n (node_copies w) ≡ true = of_node w n i (rw c at (name_of w x m).2) in
      let a : binder_of (rewritten w) (node_first (rewritten w) (copy_node_of w n)) ≡ by_new (copy_node_of w n) =
      Binders.binder-new (rewritten w) rr rb (copy_node_of w n) (Insides.copied-node w p n q) (rw (Reading.node_kind-copy w n q) k) in
      let f : node_first (rewritten w) (copy_node_of w n) ≡ copy_name_of w x = Fields.new-copy w p n q k ∙ ap (copy_name_of w) e in
      let g : binder_of (rewritten w) (copy_name_of w x) ≡ by_new (copy_node_of w n) = rw f at a in
      rw (g, c) (thread-copy n q)
  copied-name x m (by-receive b i k e) =
      let c : binder_of w x ≡ by_receive b = rw e at (Binders.binder-receive w p.ranges p.binding b i k) in
      let q : member b (branch_copies w) ≡ true = Family.of-branch w b i (rw c at (name_of w x m).2) in
      let a : binder_of (rewritten w) (branch_name (rewritten w) (copy_branch_of w b)) ≡ by_receive (copy_branch_of w b) =
      Binders.binder-receive (rewritten w) rr rb (copy_branch_of w b) (copied-branch b q) (rw (Reading.branch_kind-copy w b q) k) in
      let f : branch_name (rewritten w) (copy_branch_of w b) ≡ copy_name_of w x = Reading.branch_name-copy w b q ∙ rw (Inside.receive-not-silent w b k, e) in
      let g : binder_of (rewritten w) (copy_name_of w x) ≡ by_receive (copy_branch_of w b) = rw f at a in
      rw (g, c, home-copy b q) (thread-copy (home w b) (Family.home-copied w p b q))
  copied-name x m (by-formal d i k) =
      let c : binder_of w x ≡ by_formal d = Binders.binder-formal w p.ranges p.binding d x i k in
      let q : member d (copied w) ≡ true = rw c at (name_of w x m).2 in
      let g : binder_of (rewritten w) (copy_name_of w x) ≡ by_formal (copy_definition_of w d) =
      Binders.binder-formal (rewritten w) rr rb (copy_definition_of w d) (copy_name_of w x) (copied-definition d q)
      (rw (Spans.formals-copy w p d q) (member-map (copy_name_of w) x (formals w d) k)) in
      rw (g, c) (Reading.definition_thread-copy w d q)

  bound : (x : ℕ) → publics w ≤ x → x < names w → Bound w x
  bound x l u = Binders.bound w p.ranges p.binding x l u (Decoded.name-kind w p.kinds x l u)

  name-thread : (x : ℕ) → x < names (rewritten w) → binder_thread w (binder_of w (oX x)) ≡ binder_thread (rewritten w) (binder_of (rewritten w) x)
  name-thread x u = go (Insides.new-name w p x u) (dec_lt x (publics w))
    where
      go : NewNumber (names w) (name_copies w) (names-distinct w) x → Dec (x < publics w)
          → binder_thread w (binder_of w (oX x)) ≡ binder_thread (rewritten w) (binder_of (rewritten w) x)
      go n (yes l) =
          rw (
            name-self x (omega arith),
            Binders.outside-unbound w p.ranges p.binding x (inl l),
            Binders.outside-unbound (rewritten w) rr rb x (inl (rw (Reading.publics-new w) l)),
          ) (sym (Reading.threads-new w))
      go (old i) (no l) = rw (name-self x i) (sym (old-name x (omega arith) i (bound x (omega arith) i)))
      go (copy y m e) (no l) =
          let q = name_of w y m in
          rw (e, ← copy-bound w y q.0, name-origin y (inr m)) (sym (copied-name y m (bound y q.0 q.1)))

  -- ---- definitions

  root-read : (d : ℕ) → d < definitions (rewritten w) → root w (oD d) ≡ oN (root (rewritten w) d)
  root-read d l = go (Insides.new-definition w p d l)
    where
      go : NewNumber (definitions w) (copied w) (copied-distinct w) d → root w (oD d) ≡ oN (root (rewritten w) d)
      go (old i) = rw (definition-self d i, Reading.root-old w d i) (sym (node-self (root w d) (Inside.root-inside w p.ranges d i)))
      go (copy c m e) = rw (e, definition-origin c m, Reading.root-copy w c m) (sym (node-origin (root w c) (Family.root-copied w p c m)))

  formals-read : (d : ℕ) → d < definitions (rewritten w)
      → pick (ltb (oD d) (definitions w)) (formals w (oD d)) [] ≡ map oX (pick (ltb d (definitions (rewritten w))) (formals (rewritten w) d) [])
  formals-read d l = rw (lt-ltb d (definitions (rewritten w)) l) (go (Insides.new-definition w p d l))
    where
      go : NewNumber (definitions w) (copied w) (copied-distinct w) d
          → pick (ltb (oD d) (definitions w)) (formals w (oD d)) [] ≡ map oX (formals (rewritten w) d)
      go (old i) =
          rw (definition-self d i, lt-ltb d (definitions w) i, Spans.formals-old w p d i)
          (sym (map-self oX (formals w d) (λ x m. name-self x (Inside.formals-inside w p.ranges d x i m).1)))
      go (copy c m e) =
          rw (e, definition-origin c m, lt-ltb c (definitions w) (copied-inside w c m), Spans.formals-copy w p c m)
          (sym (map_back oX (copy_name_of w) (formals w c) (λ x k. name-origin x (inr (Family.formal-copied w p c x m k)))))

  -- ---- nodes

  target-read : (n : ℕ) → n < nodes w → is_call_node w n ≡ true → oD (node_first (rewritten w) n) ≡ node_first w n
  target-read n l k = rw (Reading.node_first-old w n l) (go (true-or-false (is_self_calling w n)))
    where
      go : (is_self_calling w n ≡ true) ⊎ (is_self_calling w n ≡ false)
          → oD (pick (is_self_calling w n) (copy_definition_of w (node_first w n)) (node_first w n)) ≡ node_first w n
      go (inl c) = rw c (definition-origin (node_first w n) (rw (Fields.itself w p n c).1 (self-copied w n l (Family.definition-inside w p n) c)))
      go (inr c) = rw c (definition-self (node_first w n) (Inside.call-inside w p.ranges n l k).0)

  branch-inside-of : (n : ℕ) → n < nodes w → is_choice w n ≡ true → (node_second w n ≡ 0 → ⊥) → node_first w n < branches w
  branch-inside-of n l k z = omega (arith, Inside.choice-inside w p.ranges n l k)

  node-read : (n : ℕ) → n < nodes (rewritten w) → node_at w (oN n) ≡ read_node oN oB oX oD (node_at (rewritten w) n)
  node-read n l = go (Insides.new-node w p n l)
    where
      go : NewNumber (nodes w) (node_copies w) (nodes-distinct w) n → node_at w (oN n) ≡ read_node oN oB oX oD (node_at (rewritten w) n)
      go (old i) = rw (node-self n i) (at (Fields.kind w p n i))
        where
          e : node_kind (rewritten w) n ≡ node_kind w n
          e = Reading.node_kind-old w n i

          f : {k : ℕ} → node_kind w n ≡ k → (k ≡ 3 → ⊥) → node_first (rewritten w) n ≡ node_first w n
          f k d = Insides.first w p n i k d

          at : Kind w n → node_at w n ≡ read_node oN oB oX oD (node_at (rewritten w) n)
          at (stops k a b) = rw (stop-at w n i k, stop-at (rewritten w) n l (e ∙ k))
          at (chooses k d) =
              rw (choice-at w n i k, choice-at (rewritten w) n l (e ∙ k), f k (λ z. omega arith), Reading.node_second-old w n i)
              (ap (λ (b : ℕ). choice b (node_second w n)) (sym (branch-self (node_first w n) (branch-inside-of n i (kind-choice w n k) d))))
          at (makes k) =
              let q = Inside.new-inside w p.ranges n i (kind-new w n k) in
              let x = Inside.bound-inside w (node_first w n) q.0 in
              rw (
                new-at w n i k,
                new-at (rewritten w) n l (e ∙ k),
                f k (λ z. omega arith),
                Reading.node_second-old w n i,
                name-self (node_first w n)
                    x.1,
                node-self (node_second w n) q.1,
              )
          at (calls k c) = rw (call_at w n i k, call_at (rewritten w) n l (e ∙ k)) (ap call (sym (target-read n i (kind-call w n k))))
      go (copy a m e) = rw (e, node-origin a m) (at (Fields.kind w p a i))
        where
          i : a < nodes w
          i = (node_of w a m).0

          l' : copy_node_of w a < nodes (rewritten w)
          l' = Insides.copied-node w p a m

          g : node_kind (rewritten w) (copy_node_of w a) ≡ node_kind w a
          g = Reading.node_kind-copy w a m

          at : Kind w a → node_at w a ≡ read_node oN oB oX oD (node_at (rewritten w) (copy_node_of w a))
          at (stops k x b) = rw (stop-at w a i k, stop-at (rewritten w) (copy_node_of w a) l' (g ∙ k))
          at (chooses k d) =
              let c = kind-choice w a k in
              let b : BranchOf w a (node_first w a) = record { inside = i; choice = c; low = omega arith; high = omega arith } in
              rw (
                choice-at w a i k,
                choice-at (rewritten w) (copy_node_of w a) l' (g ∙ k),
                Fields.choice-copy w p a m c,
                Fields.plain_copy w p a m (Inside.choice-not-new w a c) (Fields.no_arguments w p a (Inside.choice-not-call w a c)),
              ) (ap (λ (b : ℕ). choice b (node_second w a)) (sym (branch-origin (node_first w a) (Family.branch-copied w p a (node_first w a) m b))))
          at (makes k) =
              let c = kind-new w a k in
              rw (
                new-at w a i k,
                new-at (rewritten w) (copy_node_of w a) l' (g ∙ k),
                Fields.new-copy w p a m c,
                Fields.child-copy w p a m c,
                name-origin (node_first w a) (inr (Family.new-copied w p a m c)),
                node-origin (node_second w a) (Family.child-copied w p a m c),
              )
          at (calls k c) =
              rw (call_at w a i k, call_at (rewritten w) (copy_node_of w a) l' (g ∙ k), Fields.call-copy w p a m (kind-call w a k))
              (ap call (sym (definition-self (node_first w a) (Inside.call-inside w p.ranges a i (kind-call w a k)).0)))

  usable-inside : (n x : ℕ) → Usable w n x → x < names w
  usable-inside n x (inl l) = omega arith
  usable-inside n x (inr m) = (Rattle.table.proofs.Held.held-bound w p.ranges p.shape p.binding n x m).1

  arguments-read : (n : ℕ) → n < nodes (rewritten w) → arguments_from w (oN n) ≡ map oX (arguments_from (rewritten w) n)
  unfolding arguments_from
  arguments-read n l = rw (lt-ltb n (nodes (rewritten w)) l) (go (Insides.new-node w p n l))
    where
      inside : (n : ℕ) → n < nodes w → is_call_node w n ≡ true → (x : ℕ) → member x (arguments_of w n) ≡ true → x < names w
      inside n i k x m = usable-inside n x (Uses.argument-usable w p.scope n x i k m)

      go : NewNumber (nodes w) (node_copies w) (nodes-distinct w) n
          → pick (ltb (oN n) (nodes w) && is_call_node w (oN n)) (arguments_of w (oN n)) [] ≡ map oX (pick (is_call_node (rewritten w) n) (arguments_of (rewritten w) n) [])
      go (old i) = rw (node-self n i, lt-ltb n (nodes w) i, Reading.node_kind-old w n i) (at (true-or-false (is_call_node w n)))
        where
          at : (is_call_node w n ≡ true) ⊎ (is_call_node w n ≡ false)
              → pick (is_call_node w n) (arguments_of w n) [] ≡ map oX (pick (is_call_node w n) (arguments_of (rewritten w) n) [])
          at (inl k) = rw (k, Spans.arguments-old w p n i k) (sym (map-self oX (arguments_of w n) (λ x m. name-self x (inside n i k x m))))
          at (inr k) = rw k
      go (copy a m e) =
          rw (e, node-origin a m, lt-ltb a (nodes w) (node_of w a m).0, Reading.node_kind-copy w a m) (at (true-or-false (is_call_node w a)))
        where
          at : (is_call_node w a ≡ true) ⊎ (is_call_node w a ≡ false)
              → pick (is_call_node w a) (arguments_of w a) [] ≡ map oX (pick (is_call_node w a) (arguments_of (rewritten w) (copy_node_of w a)) [])
          at (inl k) =
              rw (k, Spans.arguments-copy w p a m k)
              (sym (map_back oX (copy_name_of w) (arguments_of w a)
              (λ x q. name-origin x (Fields.used-copied w p a x m (Uses.argument-usable w p.scope a x (node_of w a m).0 k q)))))
          at (inr k) = rw k

  thread-read : (n : ℕ) → n < nodes (rewritten w) → thread w (oN n) ≡ thread (rewritten w) n
  thread-read n l = go (Insides.new-node w p n l)
    where
      go : NewNumber (nodes w) (node_copies w) (nodes-distinct w) n → thread w (oN n) ≡ thread (rewritten w) n
      go (old i) = rw (node-self n i) (sym (thread-old n i))
      go (copy a m e) = rw (e, node-origin a m) (sym (thread-copy a m))

  -- ---- branches

  branch_read : (b : ℕ) → b < branches (rewritten w) → branch_at w (oB b) ≡ read_branch oN oX (branch_at (rewritten w) b)
  branch_read b l = go (Insides.new-branch w p b l)
    where
      kind : (c : ℕ) → c < branches w → (branch_kind w c ≡ 0) ⊎ ((branch_kind w c ≡ 1) ⊎ (branch_kind w c ≡ 2))
      kind c i = at (ℕ_discrete (branch_kind w c) 0) (ℕ_discrete (branch_kind w c) 1)
        where
          at : Dec (branch_kind w c ≡ 0) → Dec (branch_kind w c ≡ 1) → (branch_kind w c ≡ 0) ⊎ ((branch_kind w c ≡ 1) ⊎ (branch_kind w c ≡ 2))
          at (yes a) z = inl a
          at (no a) (yes z) = inr (inl z)
          at (no a) (no z) = inr (inr (omega (arith, Decoded.branch-kind w p.kinds c i)))

      go : NewNumber (branches w) (branch_copies w) (branches-distinct w) b → branch_at w (oB b) ≡ read_branch oN oX (branch_at (rewritten w) b)
      go (old i) = rw (branch-self b i) (at (kind b i))
        where
          e : branch_kind (rewritten w) b ≡ branch_kind w b
          e = Reading.branch_kind-old w b i

          nx : oN (next w b) ≡ next w b
          nx = node-self (next w b) (Inside.next-inside w p.ranges b i)

          loud : (k : ℕ) → branch_kind w b ≡ k → (k ≡ 0 → ⊥) → is_silent w b ≡ false
          loud k q d = same-no (branch_kind w b) 0 (λ z. d (sym q ∙ z))

          at : (branch_kind w b ≡ 0) ⊎ ((branch_kind w b ≡ 1) ⊎ (branch_kind w b ≡ 2)) → branch_at w b ≡ read_branch oN oX (branch_at (rewritten w) b)
          at (inl k) = rw (silent-at w b i k, silent-at (rewritten w) b l (e ∙ k), Reading.next-old w b i, nx)
          at (inr (inl k)) =
              let s = loud 1 k (λ z. omega arith) in
              rw (
                send_at w b i k,
                send_at (rewritten w) b l (e ∙ k),
                Reading.channel-old w b i,
                Reading.branch_name-old w b i,
                Reading.next-old w b i,
                name-self (channel w b) (Inside.channel-inside w p.ranges b i s),
                nx,
              ) (ap (λ (z : ℕ). send (channel w b) z (next w b)) (sym (name-self (branch_name w b) (Inside.name-inside w p.ranges b i s))))
          at (inr (inr k)) =
              let s = loud 2 k (λ z. omega arith) in
              rw (
                receive-at w b i k,
                receive-at (rewritten w) b l (e ∙ k),
                Reading.channel-old w b i,
                Reading.branch_name-old w b i,
                Reading.next-old w b i,
                name-self (channel w b) (Inside.channel-inside w p.ranges b i s),
                nx,
              ) (ap (λ (z : ℕ). receive (channel w b) z (next w b)) (sym (name-self (branch_name w b) (Inside.name-inside w p.ranges b i s))))
      go (copy c m e) = rw (e, branch-origin c m) (at (kind c i))
        where
          i : c < branches w
          i = (branch-of w c m).0

          l' : copy_branch_of w c < branches (rewritten w)
          l' = copied-branch c m

          g : branch_kind (rewritten w) (copy_branch_of w c) ≡ branch_kind w c
          g = Reading.branch_kind-copy w c m

          nx : oN (copy_node_of w (next w c)) ≡ next w c
          nx = node-origin (next w c) (Family.next-copied w p c m)

          loud : (k : ℕ) → branch_kind w c ≡ k → (k ≡ 0 → ⊥) → is_silent w c ≡ false
          loud k q d = same-no (branch_kind w c) 0 (λ z. d (sym q ∙ z))

          at : (branch_kind w c ≡ 0) ⊎ ((branch_kind w c ≡ 1) ⊎ (branch_kind w c ≡ 2)) → branch_at w c ≡ read_branch oN oX (branch_at (rewritten w) (copy_branch_of w c))
          at (inl k) = rw (silent-at w c i k, silent-at (rewritten w) (copy_branch_of w c) l' (g ∙ k), Reading.next-copy w c m, nx)
          at (inr (inl k)) =
              let s = loud 1 k (λ z. omega arith) in
              let r : is_receive w c ≡ false = same-no (branch_kind w c) 2 (λ z. omega (arith, k, z)) in
              let x : channel (rewritten w) (copy_branch_of w c) ≡ copy_name_of w (channel w c) = Reading.channel-copy w c m ∙ rw s in
              let y : branch_name (rewritten w) (copy_branch_of w c) ≡ copy_name_of w (branch_name w c) = Reading.branch_name-copy w c m ∙ rw s in
              rw (
                send_at w c i k,
                send_at (rewritten w) (copy_branch_of w c) l' (g ∙ k),
                x,
                y,
                Reading.next-copy w c m,
                nx,
                name-origin (channel w c)
                    (Insides.channel-copied w p c m s),
              )
              (ap (λ (z : ℕ). send (channel w c) z (next w c)) (sym (name-origin (branch_name w c) (Insides.sent-copied w p c m s r))))
          at (inr (inr k)) =
              let s = loud 2 k (λ z. omega arith) in
              let x : channel (rewritten w) (copy_branch_of w c) ≡ copy_name_of w (channel w c) = Reading.channel-copy w c m ∙ rw s in
              let y : branch_name (rewritten w) (copy_branch_of w c) ≡ copy_name_of w (branch_name w c) = Reading.branch_name-copy w c m ∙ rw s in
              rw (
                receive-at w c i k,
                receive-at (rewritten w) (copy_branch_of w c) l' (g ∙ k),
                x,
                y,
                Reading.next-copy w c m,
                nx,
                name-origin (channel w c)
                    (Insides.channel-copied w p c m s),
              )
              (ap (λ (z : ℕ). receive (channel w c) z (next w c)) (sym (name-origin (branch_name w c) (inr (Family.receive-copied w p c m (same-yes _ _ k))))))

  home-read : (b : ℕ) → b < branches (rewritten w) → home w (oB b) ≡ oN (home (rewritten w) b)
  home-read b l = go (Insides.new-branch w p b l)
    where
      go : NewNumber (branches w) (branch_copies w) (branches-distinct w) b → home w (oB b) ≡ oN (home (rewritten w) b)
      go (old i) = rw (branch-self b i, home-old b i) (sym (node-self (home w b) (Owned.home-has w p.shape b i).inside))
      go (copy c m e) = rw (e, branch-origin c m, home-copy c m) (sym (node-origin (home w c) (Family.home-copied w p c m)))

  branch_run : (n f c i : ℕ) → node_at (rewritten w) n ≡ choice f c → i < c → oB (f + i) ≡ oB f + i
  branch_run n f c i e l =
      Decoded.every-choice (rewritten w) (λ n f c. (i : ℕ) → i < c → oB (f + i) ≡ oB f + i) (λ n u k. go n k (Insides.new-node w p n u)) n f c e i l
    where
      go : (n : ℕ) → is_choice (rewritten w) n ≡ true → NewNumber (nodes w) (node_copies w) (nodes-distinct w) n
          → (i : ℕ) → i < node_second (rewritten w) n → oB (node_first (rewritten w) n + i) ≡ oB (node_first (rewritten w) n) + i
      go n k (old u) i l =
          let k' : is_choice w n ≡ true = rw (Reading.node_kind-old w n u) at k in
          let q = Inside.choice-inside w p.ranges n u k' in
          let l' : i < node_second w n = rw (Reading.node_second-old w n u) at l in
          rw (
            Insides.first w p n u (same_true _ _ k') (λ z. omega arith),
            branch-self (node_first w n + i) (omega arith),
            branch-self (node_first w n)
                (omega arith),
          )
      go n k (copy a m e) i l =
          let k'' : is_choice (rewritten w) (copy_node_of w a) ≡ true = rw e at k in
          let k' : is_choice w a ≡ true = rw (Reading.node_kind-copy w a m) at k'' in
          let u = (node_of w a m).0 in
          let s = Fields.plain_copy w p a m (Inside.choice-not-new w a k') (Fields.no_arguments w p a (Inside.choice-not-call w a k')) in
          let l'' : i < node_second (rewritten w) (copy_node_of w a) = rw e at l in
          let l' : i < node_second w a = rw s at l'' in
          let b : (j : ℕ) → j < node_second w a → member (node_first w a + j) (branch_copies w) ≡ true =
          λ j v. Family.branch-copied w p a (node_first w a + j) m (record { inside = u; choice = k'; low = omega arith; high = omega arith }) in
          let z : node_first w a + 0 ≡ node_first w a = omega arith in
          let b0 : member (node_first w a) (branch_copies w) ≡ true = rw z at (b 0 (omega arith)) in
          let r = run-next (node_first w a) (node_second w a) (branch_copies w) (branches-distinct w) (Fields.branches-run w p a m k') i l' in
          let t : copy_branch_of w (node_first w a) + i ≡ copy_branch_of w (node_first w a + i) = omega (arith, r) in
          rw (e, Fields.choice-copy w p a m k', t, branch-origin (node_first w a + i) (b i l'), branch-origin (node_first w a) b0)

  -- ---- names held at one node read as different names

  one : (n x y : ℕ) → member x (held (rewritten w) n) ≡ true → member y (held (rewritten w) n) ≡ true → oX x ≡ oX y → x ≡ y
  one n x y mx my e = go (dec_lt n (nodes (rewritten w)))
    where
      at : NewNumber (nodes w) (node_copies w) (nodes-distinct w) n → x ≡ y
      at (old i) =
          let h = (Scopes.placed w p n i).held-old in
          let bx = (Rattle.table.proofs.Held.held-bound w p.ranges p.shape p.binding n x (rw h at mx)).1 in
          let by = (Rattle.table.proofs.Held.held-bound w p.ranges p.shape p.binding n y (rw h at my)).1 in
          sym (name-self x bx) ∙ e ∙ name-self y by
      at (copy a m q) =
          let h : held (rewritten w) n ≡ map (copy_name_of w) (held w a) = rw q ((Scopes.placed w p a (node_of w a m).0).held-copy m) in
          let sx = map-member (copy_name_of w) x (held w a) (rw h at mx) in
          let sy = map-member (copy_name_of w) y (held w a) (rw h at my) in
          let ox : oX x ≡ sx.source = ap oX sx.gives ∙ name-origin sx.source (inr (Family.held-copied w p a sx.source m sx.stands)) in
          let oy : oX y ≡ sy.source = ap oX sy.gives ∙ name-origin sy.source (inr (Family.held-copied w p a sy.source m sy.stands)) in
          sx.gives ∙ ap (copy_name_of w) (sym ox ∙ e ∙ oy) ∙ sym sy.gives

      go : Dec (n < nodes (rewritten w)) → x ≡ y
      go (yes l) = at (Insides.new-node w p n l)
      go (no d) = member-nil x (rw (Trees.outside-held (rewritten w) rr (Shapes.shape-new w p) n (omega arith)) at mx)

  chosen : (b : ℕ) → present (branch_at w b) ≡ true → Chosen (scheme w) (home w b) b
  unfolding scheme
  chosen b q =
      let c = Owned.home-has w p.shape b (Decoded.present-inside w p.kinds b q) in
      record {
        first = node_first w (home w b);
        count = node_second w (home w b);
        at = Decoded.node-choice w (home w b) c.inside c.choice;
        low = c.low;
        high = c.high;
      }

  pub reads : Reads (scheme (rewritten w)) (scheme w) oN oB oX oD
  unfolding scheme
  reads = record {
    publics = sym (Reading.publics-new w);
    public-name = λ x l. name-self x (let k : x < publics w = rw (Reading.publics-new w) at l in omega (arith, k));
    name-thread = name-thread;
    entry-root = entry-root;
    root = root-read;
    formals = formals-read;
    node-read = node-read;
    arguments = arguments-read;
    thread = thread-read;
    thread-inside = λ n. rw (Reading.threads-new w) (Inside.thread-inside w p.ranges (definition w n) (Family.definition-inside w p n));
    branch_read = branch_read;
    home = home-read;
    branch_run = branch_run;
    one = one;
    chosen = chosen;
  }
    where
      entry-root : (t : ℕ) → t < threads (rewritten w) → root w (entry w t) ≡ oN (root (rewritten w) (entry (rewritten w) t))
      entry-root t l =
          let i : t < threads w = rw (Reading.threads-new w) at l in
          let d = Inside.entry-inside w p.ranges t i in
          rw (Reading.entry_old w t i, Reading.root-old w (entry w t) d)
          (sym (node-self (root w (entry w t)) (Inside.root-inside w p.ranges (entry w t) d)))
