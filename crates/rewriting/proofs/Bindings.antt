-- Cause 7 passes the rewritten table: every name has one binder, of its own kind.
use mathlib.Core.Path.{◌≡◌, refl, sym, ◌∙◌}
use mathlib.Core.Bool.{Bool, true, false, ◌&&◌}
use mathlib.Core.List.{List, [], ◌∷◌, ◌++◌, map}
use mathlib.Core.Logic.{◌⊎◌, inl, inr}
use Prim.Native.Nat.{ℕ, ◌+◌, ◌≤◌, ◌<◌}
use native.Mathlib.Omega.{arith}
use Rattle.lists.specs.Lists.{pick, same, from, range, every, flat, member}
use Rattle.lists.proofs.Tests.{true-or-false, not-true-false, and_intro, and_left, all_hold, same-yes, same_true}
use Rattle.lists.proofs.Ranges.{from_member, every-at, every-all}
use Rattle.scheme.specs.Words.{publics, bounds, definitions, nodes, branches, names, name_kind_of, formals, node_first, is_new, branch_name, is_silent, is_receive}
use Rattle.scheme.specs.Owners.{definition}
use Rattle.table.proofs.Inside
use Rattle.process.specs.StateWords.{place}
use Rattle.rewriting.specs.Rewriting.{is_self_calling, copied, appended, name_copies, node_copies, branch_copies, name_definition_of, branch_definition, copy_name_of}
use Rattle.rewriting.specs.Rewriting.{copy_node_of, rewritten}
use Rattle.rewriting.proofs.Appended.{NewNumber, old, copy, copy-one}
use Rattle.rewriting.proofs.Reading
use Rattle.rewriting.proofs.Family
use Rattle.rewriting.proofs.Family.{Sound, copied-distinct, nodes-distinct, branches-distinct, names-distinct, name_of, copy-bound}
use Rattle.rewriting.proofs.Fields
use Rattle.rewriting.proofs.Insides
use Rattle.rewriting.proofs.Spans
use Rattle.rewriting.proofs.Appended.{flat-copies, count-group, count-keep, times-map, times-map-none}
use Rattle.lists.specs.Lists.{times}
use Rattle.lists.proofs.Counts.{times-append, times_none}
use Rattle.lists.proofs.Members.{member-nil, one-member, flat-member, member-keep}
use Rattle.table.specs.Causes.{new_names, received_names, formal_names, bound_right, is_binding_right}
use Rattle.lists.specs.Lists.{bit}
use Rattle.table.proofs.Binders

module _ (w : List ℕ) (p : Sound w) where
  abbrev new_at : ℕ → List ℕ
  new_at n = pick (is_new w n) (node_first w n ∷ []) []

  abbrev received_at : ℕ → List ℕ
  received_at b = pick (is_receive w b) (branch_name w b ∷ []) []

  -- ---- the lists of binders

  news-new : new_names (rewritten w) ≡ new_names w ++ map (copy_name_of w) (flat new_at (node_copies w))
  unfolding new_names
  news-new =
      rw (Reading.nodes-new w)
      (flat-copies (nodes w) (node_copies w) (nodes-distinct w) new_at (λ n. pick (is_new (rewritten w) n) (node_first (rewritten w) n ∷ []) []) (copy_name_of w)
      (λ n l. rw (Reading.node_kind-old w n l) (at n l (true-or-false (is_new w n))))
      (λ n m. rw (Reading.node_kind-copy w n m) (go n m (true-or-false (is_new w n)))))
    where
      at : (n : ℕ) → n < nodes w → (is_new w n ≡ true) ⊎ (is_new w n ≡ false)
          → pick (is_new w n) (node_first (rewritten w) n ∷ []) [] ≡ pick (is_new w n) (node_first w n ∷ []) []
      at n l (inl k) = rw (k, Insides.first w p n l (same_true _ _ k) (λ z. omega arith))
      at n l (inr k) = rw k

      go : (n : ℕ) → member n (node_copies w) ≡ true → (is_new w n ≡ true) ⊎ (is_new w n ≡ false)
          → pick (is_new w n) (node_first (rewritten w) (copy_node_of w n) ∷ []) [] ≡ map (copy_name_of w) (pick (is_new w n) (node_first w n ∷ []) [])
      go n m (inl k) = rw (k, Fields.new-copy w p n m k)
      go n m (inr k) = rw k

  received-new : received_names (rewritten w) ≡ received_names w ++ map (copy_name_of w) (flat received_at (branch_copies w))
  unfolding received_names
  received-new =
      rw (Reading.branches-new w)
      (flat-copies (branches w) (branch_copies w) (branches-distinct w) received_at
      (λ b. pick (is_receive (rewritten w) b) (branch_name (rewritten w) b ∷ []) []) (copy_name_of w)
      (λ b l. rw (Reading.branch_kind-old w b l, Reading.branch_name-old w b l))
      (λ b m. rw (Reading.branch_kind-copy w b m, Reading.branch_name-copy w b m) (go b (true-or-false (is_receive w b)))))
    where
      go : (b : ℕ) → (is_receive w b ≡ true) ⊎ (is_receive w b ≡ false)
          → pick (is_receive w b) (pick (is_silent w b) (branch_name w b) (copy_name_of w (branch_name w b)) ∷ []) []
          ≡ map (copy_name_of w) (pick (is_receive w b) (branch_name w b ∷ []) [])
      go b (inl k) = rw (k, Inside.receive-not-silent w b k)
      go b (inr k) = rw k

  formals-new : formal_names (rewritten w) ≡ formal_names w ++ map (copy_name_of w) (flat (formals w) (copied w))
  unfolding formal_names
  formals-new =
      rw (Reading.definitions-new w)
      (flat-copies (definitions w) (copied w) (copied-distinct w) (formals w) (formals (rewritten w)) (copy_name_of w) (Spans.formals-old w p)
      (Spans.formals-copy w p))

  -- ---- what stands in them

  pub some_in : (b : Bool) (x y : ℕ) → member x (pick b (y ∷ []) []) ≡ true → (b ≡ true) × (x ≡ y)
  some_in true x y m = (refl, one-member x y m)
  some_in false x y m = member-nil x m

  news-inside : (x : ℕ) → member x (new_names w) ≡ true → x < names w
  unfolding new_names
  news-inside x m =
      let s = flat-member new_at x (range (nodes w)) m in
      let t = some_in (is_new w s.source) x (node_first w s.source) s.gives in
      rw t.1 (Inside.bound-inside w _
      (Inside.new-inside w p.ranges s.source (omega (arith, from_member s.source 0 (nodes w) s.stands)) t.0).0).1

  received-inside : (x : ℕ) → member x (received_names w) ≡ true → x < names w
  unfolding received_names
  received-inside x m =
      let s = flat-member received_at x (range (branches w)) m in
      let t = some_in (is_receive w s.source) x (branch_name w s.source) s.gives in
      rw t.1 (Inside.bound-inside w _
      (Inside.receive_inside w p.ranges s.source (omega (arith, from_member s.source 0 (branches w) s.stands)) t.0)).1

  formals-inside : (x : ℕ) → member x (formal_names w) ≡ true → x < names w
  unfolding formal_names
  formals-inside x m =
      let s = flat-member (formals w) x (range (definitions w)) m in
      (Inside.formals-inside w p.ranges s.source x (omega (arith, from_member s.source 0 (definitions w) s.stands)) s.gives).1

  news-copied : (x : ℕ) → member x (flat new_at (node_copies w)) ≡ true → member x (name_copies w) ≡ true
  news-copied x m =
      let s = flat-member new_at x (node_copies w) m in
      let t = some_in (is_new w s.source) x (node_first w s.source) s.gives in
      rw t.1 (Family.new-copied w p s.source s.stands t.0)

  received-copied : (x : ℕ) → member x (flat received_at (branch_copies w)) ≡ true → member x (name_copies w) ≡ true
  received-copied x m =
      let s = flat-member received_at x (branch_copies w) m in
      let t = some_in (is_receive w s.source) x (branch_name w s.source) s.gives in
      rw t.1 (Family.receive-copied w p s.source s.stands t.0)

  formals-copied : (x : ℕ) → member x (flat (formals w) (copied w)) ≡ true → member x (name_copies w) ≡ true
  formals-copied x m =
      let s = flat-member (formals w) x (copied w) m in
      Family.formal-copied w p s.source x s.stands s.gives

  -- ---- counts

  pub copy-name-one : (x y : ℕ) → member x (name_copies w) ≡ true → member y (name_copies w) ≡ true → copy_name_of w x ≡ copy_name_of w y → x ≡ y
  copy-name-one x y m k e =
      copy-one (names w) (name_copies w) (names-distinct w) x y m k (sym (copy-bound w x (name_of w x m).0) ∙ e ∙ copy-bound w y (name_of w y k).0)

  module _ (all some : List ℕ) (inside : (k : ℕ) → member k all ≡ true → k < names w) (copied-in : (k : ℕ) → member k some ≡ true
      → member k (name_copies w) ≡ true) where
    count-old : (x : ℕ) → x < names w → times x (all ++ map (copy_name_of w) some) ≡ times x all
    count-old x l =
        times-append x all (map (copy_name_of w) some)
        ∙ omega (arith, times-map-none (copy_name_of w) x some (λ y m e. let q = copy-bound w y (name_of w y (copied-in y m)).0 in omega (arith, q, e)))

    count-copy : (x : ℕ) → member x (name_copies w) ≡ true → times (names w + place x (name_copies w)) (all ++ map (copy_name_of w) some) ≡ times x some
    count-copy x m =
        let q = copy-bound w x (name_of w x m).0 in
        let z : times (copy_name_of w x) all ≡ 0 =
        times_none (copy_name_of w x) all (not-true-false (member (copy_name_of w x) all) (λ k. omega (arith, q, inside (copy_name_of w x) k))) in
        rw (← q)
        (times-append (copy_name_of w x) all (map (copy_name_of w) some)
        ∙ omega (arith, z, times-map (copy_name_of w) x some (λ y k e. copy-name-one x y m (copied-in y k) e)))

  count-news : (x : ℕ) → member x (name_copies w) ≡ true → times x (flat new_at (node_copies w)) ≡ times x (new_names w)
  unfolding new_names appended
  count-news x m =
      count-group (definition w) (range (nodes w)) new_at x (name_definition_of w x)
      (λ n i q.
      let t = some_in (is_new w n) x (node_first w n) q in
      rw (t.1, Binders.binder-new w p.ranges p.binding n (omega (arith, from_member n 0 (nodes w) i)) t.0))
      (copied w) (copied-distinct w) (name_of w x m).2

  count-received : (x : ℕ) → member x (name_copies w) ≡ true → times x (flat received_at (branch_copies w)) ≡ times x (received_names w)
  unfolding received_names appended
  count-received x m =
      count-group (branch_definition w) (range (branches w)) received_at x (name_definition_of w x)
      (λ b i q.
      let t = some_in (is_receive w b) x (branch_name w b) q in
      rw (t.1, Binders.binder-receive w p.ranges p.binding b (omega (arith, from_member b 0 (branches w) i)) t.0))
      (copied w) (copied-distinct w) (name_of w x m).2

  count-formals : (x : ℕ) → member x (name_copies w) ≡ true → times x (flat (formals w) (copied w)) ≡ times x (formal_names w)
  unfolding formal_names copied
  count-formals x m =
      count-keep (λ d. Rattle.lists.specs.Lists.some (λ n. is_self_calling w n && same (definition w n) d) (range (nodes w))) (formals w) x (range (definitions w))
      (λ d i q.
      let l : d < definitions w = omega (arith, from_member d 0 (definitions w) i) in
      let c : member d (copied w) ≡ true = rw (Binders.binder-formal w p.ranges p.binding d x l q) at (name_of w x m).2 in
      and_left (Rattle.lists.specs.Lists.some (λ n. is_self_calling w n && same (definition w n) d) (range (nodes w))) (member d (range (definitions w)))
      (sym (member-keep (λ d. Rattle.lists.specs.Lists.some (λ n. is_self_calling w n && same (definition w n) d) (range (nodes w))) d (range (definitions w)))
      ∙ c))

  -- ---- the tests

  tests : (every (bound_right w (new_names w) 0) (from (publics w) (bounds w)) ≡ true) ×
      (every (bound_right w (received_names w) 1) (from (publics w) (bounds w)) ≡ true)
      × (every (bound_right w (formal_names w) 2) (from (publics w) (bounds w)) ≡ true)
  unfolding is_binding_right
  tests =
      let k = p.binding in
      let t =
      all_hold (every (bound_right w (new_names w) 0) (from (publics w) (bounds w)))
      (every (bound_right w (received_names w) 1) (from (publics w) (bounds w)) ∷ every (bound_right w (formal_names w) 2) (from (publics w) (bounds w)) ∷ []) k in
      (t.0, t.1.0, t.1.1)

  module _ (kind : ℕ) (all some new-all : List ℕ) (is : new-all ≡ all ++ map (copy_name_of w) some) (inside : (k : ℕ) → member k all ≡ true → k < names w)
      (copied-in : (k : ℕ) → member k some ≡ true → member k (name_copies w) ≡ true)
      (counted : (x : ℕ) → member x (name_copies w) ≡ true → times x some ≡ times x all)
      (test : every (bound_right w all kind) (from (publics w) (bounds w)) ≡ true) where
    right : (x : ℕ) → publics w ≤ x → x < names w → times x all ≡ bit (same (name_kind_of w x) kind)
    unfolding bound_right
    right x l u = same_true _ _ (every-at (bound_right w all kind) (publics w) (bounds w) test x l u)

    bound-new : (x : ℕ) → publics (rewritten w) ≤ x → x < publics (rewritten w) + bounds (rewritten w) → bound_right (rewritten w) new-all kind x ≡ true
    unfolding bound_right
    bound-new x l u = same-yes _ _ (rw is (go (Insides.new-name w p x u)))
      where
        go : NewNumber (names w) (name_copies w) (names-distinct w) x → times x (all ++ map (copy_name_of w) some) ≡ bit (same (name_kind_of (rewritten w) x) kind)
        go (old i) =
            let j : publics w ≤ x = rw (Reading.publics-new w) at l in
            rw (count-old all some inside copied-in x i, Reading.name-old w x j i) (right x j i)
        go (copy y m e) =
            rw (e, count-copy all some inside copied-in y m, Reading.name-copy w y m) (counted y m ∙ right y (name_of w y m).0 (name_of w y m).1)

    every-bound : every (bound_right (rewritten w) new-all kind) (from (publics (rewritten w)) (bounds (rewritten w))) ≡ true
    every-bound = every-all (bound_right (rewritten w) new-all kind) (publics (rewritten w)) (bounds (rewritten w)) bound-new

  pub binding-new : is_binding_right (rewritten w) ≡ true
  unfolding is_binding_right
  binding-new =
      and_intro _ _ (every-bound 0 (new_names w) (flat new_at (node_copies w)) (new_names (rewritten w)) news-new news-inside news-copied count-news tests.0)
      (and_intro _ _
      (every-bound 1 (received_names w) (flat received_at (branch_copies w)) (received_names (rewritten w)) received-new received-inside received-copied
      count-received tests.1)
      (every-bound 2 (formal_names w) (flat (formals w) (copied w)) (formal_names (rewritten w)) formals-new formals-inside formals-copied count-formals
      tests.2))
