-- Causes 8 and 9 pass the rewritten table: what its nodes hold, and where its calls go.
use mathlib.Core.Path.{◌≡◌, refl, sym, ap, ◌∙◌}
use mathlib.Core.Bool.{Bool, true, false, not, ◌&&◌}
use mathlib.Core.List.{List, [], ◌∷◌, map}
use mathlib.Core.Logic.{◌⊎◌, inl, inr}
use Prim.Native.Nat.{ℕ, ◌<◌}
use native.Mathlib.Omega.{arith}
use borrow.Author.Tests.{lt-ltb}
use Rattle.lists.specs.Lists.{pick, same, range, every, member}
use Rattle.lists.proofs.Tests.{false-true, true-or-false, and_intro, and_both, and_left, or_right, same-yes, same-no, same_true, same_false}
use Rattle.lists.proofs.Ranges.{every-below, below-every}
use Rattle.lists.proofs.Members.{member-map}
use Rattle.scheme.specs.Words.{publics, definitions, threads, nodes, branches, is_public, definition_thread, root, formal_count, entry, node_first, node_second}
use Rattle.scheme.specs.Words.{is_new, is_call_node, branches_of, branch_kind, channel, branch_name, next, is_silent, is_send, is_receive, arguments_of}
use Rattle.scheme.specs.Owners.{definition, held}
use Rattle.table.specs.Inner.Shaped.{BranchOf}
use Rattle.table.proofs.Inside
use Rattle.table.proofs.Owned
use Rattle.table.proofs.Uses
use Rattle.table.proofs.Uses.{Usable}
use Rattle.rewriting.specs.Rewriting.{is_self_calling, copied, node_copies, branch_copies, copy_name_of, copy_definition_of, copy_node_of, copy_branch_of, rewritten}
use Rattle.rewriting.proofs.Appended.{NewNumber, old, copy, copy-high}
use Rattle.rewriting.proofs.Reading
use Rattle.rewriting.proofs.Family
use Rattle.rewriting.proofs.Family.{Sound, copied-distinct, nodes-distinct, node_of, of_node, copy-public}
use Rattle.rewriting.proofs.Fields
use Rattle.rewriting.proofs.Fields.{calls}
use Rattle.rewriting.proofs.Insides
use Rattle.rewriting.proofs.Spans
use Rattle.lists.proofs.Members.{map-member}
use Rattle.table.specs.Causes.{is_shape_right}
use Rattle.rewriting.proofs.Shapes
use Rattle.rewriting.proofs.Bindings
use Rattle.scheme.specs.Owners.{binds_of}
use Rattle.table.specs.Causes.{usable, is_branch_scoped, is_node_scoped, is_scope_right, is_entry_right, call_right_in, is_call_right, are_calls_right, are_counts_right, first_failed}
use Rattle.table.specs.Causes.{cause_sparing, cause}
use Rattle.table.proofs.Decoded
use Rattle.table.proofs.Trees
use Rattle.lists.proofs.Members.{map-append}

module _ (w : List ℕ) (p : Sound w) where
  abbrev r : Rattle.table.specs.Causes.are_ranges_right (rewritten w) ≡ true
  r = Insides.ranges-new w p

  abbrev s : is_shape_right (rewritten w) ≡ true
  s = Shapes.shape-new w p

  -- ---- branches and what they bind

  pub branch-old : (n b : ℕ) → BranchOf w n b → BranchOf (rewritten w) n b
  branch-old n b c =
      Owned.branches-in (rewritten w) n b (omega (arith, c.inside, Reading.nodes-new w))
      (rw (Spans.branches-old w p n c.inside) (Owned.in-branches w n b c.choice c.low c.high))

  pub branch-copy : (n b : ℕ) → member n (node_copies w) ≡ true → BranchOf w n b → BranchOf (rewritten w) (copy_node_of w n) (copy_branch_of w b)
  branch-copy n b m c =
      Owned.branches-in (rewritten w) (copy_node_of w n) (copy_branch_of w b) (Insides.copied-node w p n m)
      (rw (Spans.branches-copy w p n m) (member-map (copy_branch_of w) b (branches_of w n) (Owned.in-branches w n b c.choice c.low c.high)))

  binds-old : (b : ℕ) → b < branches w → binds_of (rewritten w) b ≡ binds_of w b
  binds-old b l = rw (Reading.branch_kind-old w b l, Reading.branch_name-old w b l)

  binds-copy : (b : ℕ) → member b (branch_copies w) ≡ true → binds_of (rewritten w) (copy_branch_of w b) ≡ map (copy_name_of w) (binds_of w b)
  binds-copy b m = rw (Reading.branch_kind-copy w b m, Reading.branch_name-copy w b m) (go (true-or-false (is_receive w b)))
    where
      go : (is_receive w b ≡ true) ⊎ (is_receive w b ≡ false)
          → pick (is_receive w b) (pick (is_silent w b) (branch_name w b) (copy_name_of w (branch_name w b)) ∷ []) []
          ≡ map (copy_name_of w) (pick (is_receive w b) (branch_name w b ∷ []) [])
      go (inl k) = rw (k, Inside.receive-not-silent w b k)
      go (inr k) = rw k

  -- ---- what nodes hold, and which definition they are in

  pub record Placed (n : ℕ) : Type 0 where
    pub held-old : held (rewritten w) n ≡ held w n
    pub definition-old : definition (rewritten w) n ≡ definition w n
    pub held-copy : member n (node_copies w) ≡ true → held (rewritten w) (copy_node_of w n) ≡ map (copy_name_of w) (held w n)
    pub definition-copy : member n (node_copies w) ≡ true → definition (rewritten w) (copy_node_of w n) ≡ copy_definition_of w (definition w n)

  old-definition : (d : ℕ) → d < definitions w → d < definitions (rewritten w)
  old-definition d l = omega (arith, Reading.definitions-new w)

  copied-definition : (d : ℕ) → member d (copied w) ≡ true → copy_definition_of w d < definitions (rewritten w)
  copied-definition d m = rw (Reading.definitions-new w) (copy-high (definitions w) (copied w) (copied-distinct w) d m)

  old-node : (n : ℕ) → n < nodes w → n < nodes (rewritten w)
  old-node n l = omega (arith, Reading.nodes-new w)

  at-root : (d : ℕ) → d < definitions w → Placed (root w d)
  at-root d l =
      let e = Reading.root-old w d l in
      let q = Trees.root-definition w p.ranges p.shape d l in
      record {
        held-old = (rw e at (Trees.root-held (rewritten w) r s d (old-definition d l))) ∙ Spans.formals-old w p d l
            ∙ sym (Trees.root-held w p.ranges p.shape d l);
        definition-old = (rw e at (Trees.root-definition (rewritten w) r s d (old-definition d l))) ∙ sym q;
        held-copy = λ m.
            let c : member d (copied w) ≡ true = rw q at (node_of w (root w d) m).1 in
            (rw (Reading.root-copy w d c) at (Trees.root-held (rewritten w) r s (copy_definition_of w d) (copied-definition d c)))
            ∙ Spans.formals-copy w p d c ∙ ap (map (copy_name_of w)) (sym (Trees.root-held w p.ranges p.shape d l));
        definition-copy = λ m.
            let c : member d (copied w) ≡ true = rw q at (node_of w (root w d) m).1 in
            (rw (Reading.root-copy w d c) at (Trees.root-definition (rewritten w) r s (copy_definition_of w d) (copied-definition d c)))
            ∙ ap (copy_definition_of w) (sym q);
      }

  at_new : (n : ℕ) → n < nodes w → is_new w n ≡ true → Placed n → Placed (node_second w n)
  at_new n l k ih =
      let k' : is_new (rewritten w) n ≡ true = rw (Reading.node_kind-old w n l) k in
      let e = Reading.node_second-old w n l in
      let f = Insides.first w p n l (same_true _ _ k) (λ z. omega arith) in
      let q = Trees.new-definition w p.ranges p.shape n l k in
      record {
        held-old = (rw (e, f, ih.held-old) at (Trees.new-held (rewritten w) r s n (old-node n l) k')) ∙ sym (Trees.new-held w p.ranges p.shape n l k);
        definition-old = (rw (e, ih.definition-old) at (Trees.new-definition (rewritten w) r s n (old-node n l) k')) ∙ sym q;
        held-copy = λ m. held-copied n (up n l k m) l k (ih.held-copy (up n l k m));
        definition-copy = λ m. definition-copied n (up n l k m) l k (ih.definition-copy (up n l k m));
      }
    where
      up : (n : ℕ) → n < nodes w → is_new w n ≡ true → member (node_second w n) (node_copies w) ≡ true → member n (node_copies w) ≡ true
      up n l k m = of_node w n l (rw (Trees.new-definition w p.ranges p.shape n l k) at (node_of w (node_second w n) m).1)

      kind : (n : ℕ) → member n (node_copies w) ≡ true → is_new w n ≡ true → is_new (rewritten w) (copy_node_of w n) ≡ true
      kind n m k = rw (Reading.node_kind-copy w n m) k

      held-copied : (n : ℕ) → member n (node_copies w) ≡ true → n < nodes w → is_new w n ≡ true → held (rewritten w) (copy_node_of w n) ≡ map (copy_name_of w) (held w n)
          → held (rewritten w) (copy_node_of w (node_second w n)) ≡ map (copy_name_of w) (held w (node_second w n))
      held-copied n m l k h =
          (rw (Fields.child-copy w p n m k, Fields.new-copy w p n m k, h) at
          (Trees.new-held (rewritten w) r s (copy_node_of w n) (Insides.copied-node w p n m) (kind n m k)))
          ∙ sym (map-append (copy_name_of w) (held w n) (node_first w n ∷ []))
          ∙ ap (map (copy_name_of w)) (sym (Trees.new-held w p.ranges p.shape n l k))

      definition-copied : (n : ℕ) → member n (node_copies w) ≡ true → n < nodes w → is_new w n ≡ true
          → definition (rewritten w) (copy_node_of w n) ≡ copy_definition_of w (definition w n)
          → definition (rewritten w) (copy_node_of w (node_second w n)) ≡ copy_definition_of w (definition w (node_second w n))
      definition-copied n m l k h =
          (rw (Fields.child-copy w p n m k, h) at (Trees.new-definition (rewritten w) r s (copy_node_of w n) (Insides.copied-node w p n m) (kind n m k)))
          ∙ ap (copy_definition_of w) (sym (Trees.new-definition w p.ranges p.shape n l k))

  at_next : (n b : ℕ) → BranchOf w n b → Placed n → Placed (next w b)
  at_next n b c ih =
      let l = Trees.branch-inside w p.ranges p.shape n b c in
      let e = Reading.next-old w b l in
      let q = Trees.next-definition w p.ranges p.shape n b c in
      record {
        held-old = (rw (e, binds-old b l, ih.held-old) at (Trees.next-held (rewritten w) r s n b (branch-old n b c)))
            ∙ sym (Trees.next-held w p.ranges p.shape n b c);
        definition-old = (rw (e, ih.definition-old) at (Trees.next-definition (rewritten w) r s n b (branch-old n b c))) ∙ sym q;
        held-copy = λ m.
            let i = up m in
            let j = Family.branch-copied w p n b i c in
            (rw (Reading.next-copy w b j, binds-copy b j, ih.held-copy i) at
            (Trees.next-held (rewritten w) r s (copy_node_of w n) (copy_branch_of w b) (branch-copy n b i c)))
            ∙ sym (map-append (copy_name_of w) (held w n) (binds_of w b))
            ∙ ap (map (copy_name_of w)) (sym (Trees.next-held w p.ranges p.shape n b c));
        definition-copy = λ m.
            let i = up m in
            let j = Family.branch-copied w p n b i c in
            (rw (Reading.next-copy w b j, ih.definition-copy i) at
            (Trees.next-definition (rewritten w) r s (copy_node_of w n) (copy_branch_of w b) (branch-copy n b i c)))
            ∙ ap (copy_definition_of w) (sym q);
      }
    where
      up : member (next w b) (node_copies w) ≡ true → member n (node_copies w) ≡ true
      up m = of_node w n c.inside (rw (Trees.next-definition w p.ranges p.shape n b c) at (node_of w (next w b) m).1)

  pub placed : (n : ℕ) → n < nodes w → Placed n
  placed n l = Trees.every-node w p.ranges p.shape Placed at-root at_new at_next n l

  -- ---- cause 8

  use-old : (n x : ℕ) → n < nodes w → Usable w n x → usable (rewritten w) n x ≡ true
  unfolding usable
  use-old n x l (inl u) = rw (lt-ltb x (publics (rewritten w)) (rw (Reading.publics-new w) u))
  use-old n x l (inr m) = or_right (is_public (rewritten w) x) (member x (held (rewritten w) n)) (rw (placed n l).held-old m)

  use-copy : (n x : ℕ) → member n (node_copies w) ≡ true → Usable w n x → usable (rewritten w) (copy_node_of w n) (copy_name_of w x) ≡ true
  unfolding usable
  use-copy n x i (inl u) = rw (copy-public w x u, lt-ltb x (publics (rewritten w)) (rw (Reading.publics-new w) u))
  use-copy n x i (inr m) =
      or_right (is_public (rewritten w) (copy_name_of w x)) (member (copy_name_of w x) (held (rewritten w) (copy_node_of w n)))
      (rw ((placed n (node_of w n i).0).held-copy i) (member-map (copy_name_of w) x (held w n) m))

  send-of : (b : ℕ) → b < branches w → is_silent w b ≡ false → is_receive w b ≡ false → is_send w b ≡ true
  send-of b i s r =
      let l = Decoded.branch-kind w p.kinds b i in
      let x : branch_kind w b ≡ 0 → ⊥ = same_false _ _ s in
      let y : branch_kind w b ≡ 2 → ⊥ = same_false _ _ r in
      same-yes (branch_kind w b) 1 (omega (arith, l, x, y))

  branch-scoped : (n b n' : ℕ) (c : ℕ → ℕ) → BranchOf w n b → ((x : ℕ) → Usable w n x → usable (rewritten w) n' (c x) ≡ true)
      → pick (is_silent w b) true (usable (rewritten w) n' (pick (is_silent w b) (channel w b) (c (channel w b))) &&
      pick (is_receive w b) true (usable (rewritten w) n' (pick (is_silent w b) (branch_name w b) (c (branch_name w b))))) ≡ true
  branch-scoped n b n' c o f = go (true-or-false (is_silent w b)) (true-or-false (is_receive w b))
    where
      i : b < branches w
      i = Trees.branch-inside w p.ranges p.shape n b o

      go : (is_silent w b ≡ true) ⊎ (is_silent w b ≡ false) → (is_receive w b ≡ true) ⊎ (is_receive w b ≡ false)
          → pick (is_silent w b) true (usable (rewritten w) n' (pick (is_silent w b) (channel w b) (c (channel w b))) &&
          pick (is_receive w b) true (usable (rewritten w) n' (pick (is_silent w b) (branch_name w b) (c (branch_name w b))))) ≡ true
      go (inl k) q = rw k
      go (inr k) (inl q) = rw (k, q, f (channel w b) (Uses.channel-usable w p.scope n b o k))
      go (inr k) (inr q) =
          rw (k, q, f (channel w b) (Uses.channel-usable w p.scope n b o k), f (branch_name w b) (Uses.sent-usable w p.scope n b o (send-of b i k q)))

  scoped-new : (n : ℕ) → n < nodes (rewritten w) → is_node_scoped (rewritten w) n ≡ true
  unfolding is_node_scoped is_branch_scoped
  scoped-new n l = go (Insides.new-node w p n l)
    where
      go : NewNumber (nodes w) (node_copies w) (nodes-distinct w) n
          → pick (is_call_node (rewritten w) n) (every (usable (rewritten w) n) (arguments_of (rewritten w) n))
          (every (is_branch_scoped (rewritten w) n) (branches_of (rewritten w) n)) ≡ true
      go (old i) = rw (Reading.node_kind-old w n i, Spans.branches-old w p n i) (at (true-or-false (is_call_node w n)))
        where
          at : (is_call_node w n ≡ true) ⊎ (is_call_node w n ≡ false)
              → pick (is_call_node w n) (every (usable (rewritten w) n) (arguments_of (rewritten w) n)) (every (is_branch_scoped (rewritten w) n) (branches_of w n)) ≡ true
          at (inl k) =
              rw (k, Spans.arguments-old w p n i k)
              (Rattle.lists.proofs.Ranges.member-every (usable (rewritten w) n) (arguments_of w n)
              (λ x m. use-old n x i (Uses.argument-usable w p.scope n x i k m)))
          at (inr k) =
              rw k
              (Rattle.lists.proofs.Ranges.member-every (is_branch_scoped (rewritten w) n) (branches_of w n)
              (λ b m.
              let c = Owned.branches-in w n b i m in
              let j = Trees.branch-inside w p.ranges p.shape n b c in
              rw (Reading.branch_kind-old w b j, Reading.channel-old w b j, Reading.branch_name-old w b j)
              (pick_same (is_silent w b) b n (branch-scoped n b n (λ x. x) c (λ x u. use-old n x i u)))))
            where
              pick_same : (β : Bool) (b n : ℕ)
                  → pick β true (usable (rewritten w) n (pick β (channel w b) (channel w b)) && pick (is_receive w b) true
                  (usable (rewritten w) n (pick β (branch_name w b) (branch_name w b)))) ≡ true
                  → pick β true (usable (rewritten w) n (channel w b) && pick (is_receive w b) true (usable (rewritten w) n (branch_name w b))) ≡ true
              pick_same true b n h = refl
              pick_same false b n h = h
      go (copy a i e) = rw (e, Reading.node_kind-copy w a i, Spans.branches-copy w p a i) (at (true-or-false (is_call_node w a)))
        where
          at : (is_call_node w a ≡ true) ⊎ (is_call_node w a ≡ false)
              → pick (is_call_node w a) (every (usable (rewritten w) (copy_node_of w a)) (arguments_of (rewritten w) (copy_node_of w a)))
              (every (is_branch_scoped (rewritten w) (copy_node_of w a)) (map (copy_branch_of w) (branches_of w a))) ≡ true
          at (inl k) =
              rw (k, Spans.arguments-copy w p a i k)
              (Rattle.lists.proofs.Ranges.member-every (usable (rewritten w) (copy_node_of w a)) (map (copy_name_of w) (arguments_of w a))
              (λ x' m.
              let t = map-member (copy_name_of w) x' (arguments_of w a) m in
              rw t.gives (use-copy a t.source i (Uses.argument-usable w p.scope a t.source (node_of w a i).0 k t.stands))))
          at (inr k) =
              rw k
              (Rattle.lists.proofs.Ranges.member-every (is_branch_scoped (rewritten w) (copy_node_of w a)) (map (copy_branch_of w) (branches_of w a))
              (λ b' m.
              let t = map-member (copy_branch_of w) b' (branches_of w a) m in
              let c = Owned.branches-in w a t.source (node_of w a i).0 t.stands in
              let j = Family.branch-copied w p a t.source i c in
              rw (t.gives, Reading.branch_kind-copy w t.source j, Reading.channel-copy w t.source j, Reading.branch_name-copy w t.source j)
              (branch-scoped a t.source (copy_node_of w a) (copy_name_of w) c (λ x u. use-copy a x i u))))

  pub scope-new : is_scope_right (rewritten w) ≡ true
  unfolding is_scope_right
  scope-new = below-every (is_node_scoped (rewritten w)) (nodes (rewritten w)) scoped-new

  -- ---- cause 9

  stay-tests : (every (is_entry_right w) (range (threads w)) ≡ true) × (every (is_call_right w true) (range (nodes w)) ≡ true)
  unfolding are_calls_right
  stay-tests = let c = p.calls in and_both (every (is_entry_right w) (range (threads w))) (every (is_call_right w true) (range (nodes w))) c

  pub entry-own : (t : ℕ) → t < threads w → (definition_thread w (entry w t) ≡ t) × (formal_count w (entry w t) ≡ 0)
  unfolding is_entry_right
  entry-own t l =
      let e = and_both (same (definition_thread w (entry w t)) t) (same (formal_count w (entry w t)) 0)
      (every-below (is_entry_right w) (threads w) stay-tests.0 t l) in
      (same_true _ _ e.0, same_true _ _ e.1)

  pub stays-own : (n : ℕ) → n < nodes w → is_call_node w n ≡ true → definition_thread w (node_first w n) ≡ definition_thread w (definition w n)
  unfolding is_call_right call_right_in
  stays-own n l k = same_true _ _ (and_left _ _ (rw k at (every-below (is_call_right w true) (nodes w) stay-tests.1 n l)))

  entry-right : (t : ℕ) → t < threads (rewritten w) → is_entry_right (rewritten w) t ≡ true
  unfolding is_entry_right
  entry-right t l =
      let i : t < threads w = rw (Reading.threads-new w) at l in
      let d = Inside.entry-inside w p.ranges t i in
      rw (Reading.entry_old w t i, Reading.definition_thread-old w (entry w t) d, Reading.formal_count-old w (entry w t) d)
      (and_intro _ _ (same-yes _ _ (entry-own t i).0) (same-yes _ _ (entry-own t i).1))

  call-right : (n : ℕ) → n < nodes (rewritten w) → is_call_right (rewritten w) false n ≡ true
  unfolding is_call_right call_right_in
  call-right n l = go (Insides.new-node w p n l)
    where
      go : NewNumber (nodes w) (node_copies w) (nodes-distinct w) n
          → pick (is_call_node (rewritten w) n)
          (same (definition_thread (rewritten w) (node_first (rewritten w) n)) (definition_thread (rewritten w) (definition (rewritten w) n)) &&
          not (same (node_first (rewritten w) n) (definition (rewritten w) n))) true ≡ true
      go (old i) = rw (Reading.node_kind-old w n i, (placed n i).definition-old) (at (true-or-false (is_call_node w n)))
        where
          d : definition w n < definitions w
          d = Family.definition-inside w p n

          at : (is_call_node w n ≡ true) ⊎ (is_call_node w n ≡ false)
              → pick (is_call_node w n) (same (definition_thread (rewritten w) (node_first (rewritten w) n)) (definition_thread (rewritten w) (definition w n)) &&
              not (same (node_first (rewritten w) n) (definition w n))) true ≡ true
          at (inr k) = rw k
          at (inl k) =
              rw (
                k,
                (Fields.target-old w p n i k).thread,
                Reading.definition_thread-old w (definition w n) d,
                same-yes _ _
                    (stays-own n i k),
                Reading.node_first-old w n i,
              )
              (away (true-or-false (is_self_calling w n)))
            where
              away : (is_self_calling w n ≡ true) ⊎ (is_self_calling w n ≡ false)
                  → not (same (pick (is_self_calling w n) (copy_definition_of w (node_first w n)) (node_first w n)) (definition w n)) ≡ true
              away (inl c) = rw (c, same-no (copy_definition_of w (node_first w n)) (definition w n) (λ e. omega (arith, d, e)))
              away (inr c) = rw (c, same-no (node_first w n) (definition w n) (λ e. false-true c (Fields.calls-itself w p n k e)))
      go (copy a i e) =
          rw (e, Reading.node_kind-copy w a i, (placed a (node_of w a i).0).definition-copy i) (at (true-or-false (is_call_node w a)))
        where
          at : (is_call_node w a ≡ true) ⊎ (is_call_node w a ≡ false)
              → pick (is_call_node w a) (same (definition_thread (rewritten w) (node_first (rewritten w) (copy_node_of w a)))
              (definition_thread (rewritten w) (copy_definition_of w (definition w a))) &&
              not (same (node_first (rewritten w) (copy_node_of w a)) (copy_definition_of w (definition w a)))) true ≡ true
          at (inr k) = rw k
          at (inl k) =
              let j = node_of w a i in
              let q = (Inside.call-inside w p.ranges a j.0 k).0 in
              rw (
                k,
                (Fields.target-copy w p a i k).thread,
                Reading.definition_thread-copy w (definition w a) j.1,
                same-yes _ _ (stays-own a j.0 k),
                Fields.call-copy w p a i k,
                same-no (node_first w a) (copy_definition_of w (definition w a)) (λ z. omega (arith, q, z)),
              )

  pub calls-new : are_calls_right (rewritten w) false ≡ true
  unfolding are_calls_right
  calls-new =
      and_intro _ _ (below-every (is_entry_right (rewritten w)) (threads (rewritten w)) entry-right)
      (below-every (is_call_right (rewritten w) false) (nodes (rewritten w)) call-right)

  -- the rewritten table is refused by no cause but 2, and by that exactly where a count is beyond its bound
  pub cause-new : cause (rewritten w) ≡ pick (are_counts_right (rewritten w)) 0 2
  unfolding cause cause_sparing first_failed
  cause-new =
      rw (
        Reading.long-new w,
        Reading.layout-new w,
        Insides.kinds-new w p,
        Insides.ranges-new w p,
        Shapes.shape-new w p,
        Bindings.binding-new w p,
        scope-new,
        calls-new,
      )
