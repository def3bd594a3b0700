-- What a Scheme's nodes and branches tell of the words, and the other way round (cause 4: no other kinds).
use mathlib.Core.Path.{◌≡◌, refl}
use mathlib.Core.Bool.{Bool, true, false, not}
use mathlib.Core.List.{List, [], ◌∷◌}
use mathlib.Core.Logic.{◌⊎◌, inl, inr}
use Prim.Native.Nat.{ℕ, ◌≤◌, ◌<◌}
use native.Mathlib.Decide.{dec_lt}
use native.Mathlib.Omega.{arith}
use lib.Dec.{ltb}
use borrow.Author.Tests.{lt-ltb, le-ltb, leb-true, not-true}
use Rattle.lists.specs.Lists.{same, every, range, from}
use Rattle.lists.proofs.Tests.{true-or-false, false-true, all_hold, same_true, same_false}
use Rattle.lists.proofs.Ranges.{every-below, every-at}
use Rattle.scheme.specs.Words.{publics, bounds, definitions, nodes, branches, names, name_kind_of, node_first, node_second, is_choice, is_new, is_call_node}
use Rattle.scheme.specs.Words.{branch_kind, branch_name, channel, next, is_silent, is_send, is_receive}
use Rattle.scheme.specs.Owners.{binds_of}
use Rattle.table.specs.Causes.{are_kinds_right, is_name_kind_right, are_formals_zero, is_node_kind_right, is_branch_kind_right}
use Rattle.scheme.specs.Scheme.{stop, choice, new, call, absent, silent, send, receive, present, next_node, binds, node_at, branch_at}
use Rattle.scheme.specs.Kinds.{is_receive as receives}
use Rattle.table.proofs.Inside

-- ---- cause 4

record Kinds (w : List ℕ) : Type 0 where
  name_test : (x : ℕ) → publics w ≤ x → x < names w → is_name_kind_right w x ≡ true
  node_test : (n : ℕ) → n < nodes w → is_node_kind_right w n ≡ true
  branch_test : (b : ℕ) → b < branches w → is_branch_kind_right w b ≡ true

tests : (w : List ℕ) → are_kinds_right w ≡ true → Kinds w
unfolding are_kinds_right
tests w h =
    let t =
    all_hold (every (is_name_kind_right w) (from (publics w) (bounds w)))
    (every (are_formals_zero w) (range (definitions w)) ∷ every (is_node_kind_right w) (range (nodes w)) ∷ every (is_branch_kind_right w) (range (branches w)) ∷ []) h
    in
    record {
      name_test = every-at (is_name_kind_right w) (publics w) (bounds w) t.0;
      node_test = every-below (is_node_kind_right w) (nodes w) t.1.1.0;
      branch_test = every-below (is_branch_kind_right w) (branches w) t.1.1.1;
    }

module _ (w : List ℕ) (h : are_kinds_right w ≡ true) where
  pub name-kind : (x : ℕ) → publics w ≤ x → x < names w → name_kind_of w x ≤ 2
  unfolding is_name_kind_right
  name-kind x l u = leb-true (name_kind_of w x) 2 ((tests w h).name_test x l u)

  pub choice-some : (n : ℕ) → n < nodes w → is_choice w n ≡ true → 1 ≤ node_second w n
  unfolding is_node_kind_right
  choice-some n l k =
      let e : not (same (node_second w n) 0) ≡ true = rw (Inside.choice-not-stop w n k, k) at ((tests w h).node_test n l) in
      omega (arith, same_false (node_second w n) 0 (not-true (same (node_second w n) 0) e))

  pub branch-kind : (b : ℕ) → b < branches w → branch_kind w b ≤ 2
  unfolding is_branch_kind_right
  branch-kind b l = go (true-or-false (is_silent w b))
    where
      go : (is_silent w b ≡ true) ⊎ (is_silent w b ≡ false) → branch_kind w b ≤ 2
      go (inl k) = omega (arith, same_true (branch_kind w b) 0 k)
      go (inr k) = leb-true (branch_kind w b) 2 (rw k at ((tests w h).branch_test b l))

-- ---- nodes

module _ (w : List ℕ) where
  pub node-choice : (n : ℕ) → n < nodes w → is_choice w n ≡ true → node_at w n ≡ choice (node_first w n) (node_second w n)
  unfolding node_at
  node-choice n l k = rw (lt-ltb n (nodes w) l, k)

  node-new : (n : ℕ) → n < nodes w → is_new w n ≡ true → node_at w n ≡ new (node_first w n) (node_second w n)
  unfolding node_at
  node-new n l k = rw (lt-ltb n (nodes w) l, Inside.new-not-choice w n k, k)

  node_call : (n : ℕ) → n < nodes w → is_call_node w n ≡ true → node_at w n ≡ call (node_first w n)
  unfolding node_at
  node_call n l k = rw (lt-ltb n (nodes w) l, Inside.call-not-choice w n k, Inside.call-not-new w n k, k)

  node-stop : (n : ℕ) → is_choice w n ≡ false → is_new w n ≡ false → is_call_node w n ≡ false → node_at w n ≡ stop
  unfolding node_at
  node-stop n a b c = go (ltb n (nodes w)) refl
    where
      go : (t : Bool) → ltb n (nodes w) ≡ t → node_at w n ≡ stop
      go true e = rw (e, a, b, c)
      go false e = rw e

  node-outside : (n : ℕ) → nodes w ≤ n → node_at w n ≡ stop
  unfolding node_at
  node-outside n l = rw (le-ltb n (nodes w) l)

  data NodeCase (n : ℕ) : Type 0 where
    is-choice : n < nodes w → is_choice w n ≡ true → node_at w n ≡ choice (node_first w n) (node_second w n) → NodeCase n
    is-new : n < nodes w → is_new w n ≡ true → node_at w n ≡ new (node_first w n) (node_second w n) → NodeCase n
    is-call : n < nodes w → is_call_node w n ≡ true → node_at w n ≡ call (node_first w n) → NodeCase n
    is_stop : node_at w n ≡ stop → NodeCase n

  node-case : (n : ℕ) → NodeCase n
  node-case n = go (dec_lt n (nodes w)) (true-or-false (is_choice w n)) (true-or-false (is_new w n)) (true-or-false (is_call_node w n))
    where
      go : Dec (n < nodes w) → (is_choice w n ≡ true) ⊎ (is_choice w n ≡ false) → (is_new w n ≡ true) ⊎ (is_new w n ≡ false)
          → (is_call_node w n ≡ true) ⊎ (is_call_node w n ≡ false) → NodeCase n
      go (no d) a b c = is_stop (node-outside n (omega arith))
      go (yes l) (inl a) b c = is-choice l a (node-choice n l a)
      go (yes l) (inr a) (inl b) c = is-new l b (node-new n l b)
      go (yes l) (inr a) (inr b) (inl c) = is-call l c (node_call n l c)
      go (yes l) (inr a) (inr b) (inr c) = is_stop (node-stop n a b c)

  choice-words : (n f c : ℕ) → node_at w n ≡ choice f c → (n < nodes w) × (is_choice w n ≡ true) × (node_first w n ≡ f) × (node_second w n ≡ c)
  choice-words n f c e = go (node-case n)
    where
      go : NodeCase n → (n < nodes w) × (is_choice w n ≡ true) × (node_first w n ≡ f) × (node_second w n ≡ c)
      go (is-choice l k t) = (l, k, cc, cc)
      go (is-new l k t) = let z : ◌≡◌ {A = ℕ} 0 1 = cc in absurd (omega arith)
      go (is-call l k t) = let z : ◌≡◌ {A = ℕ} 0 1 = cc in absurd (omega arith)
      go (is_stop t) = let z : ◌≡◌ {A = ℕ} 0 1 = cc in absurd (omega arith)

  new-words : (n r l : ℕ) → node_at w n ≡ new r l → (n < nodes w) × (is_new w n ≡ true) × (node_first w n ≡ r) × (node_second w n ≡ l)
  new-words n r l e = go (node-case n)
    where
      go : NodeCase n → (n < nodes w) × (is_new w n ≡ true) × (node_first w n ≡ r) × (node_second w n ≡ l)
      go (is-choice l k t) = let z : ◌≡◌ {A = ℕ} 0 1 = cc in absurd (omega arith)
      go (is-new l k t) = (l, k, cc, cc)
      go (is-call l k t) = let z : ◌≡◌ {A = ℕ} 0 1 = cc in absurd (omega arith)
      go (is_stop t) = let z : ◌≡◌ {A = ℕ} 0 1 = cc in absurd (omega arith)

  call-words : (n d : ℕ) → node_at w n ≡ call d → (n < nodes w) × (is_call_node w n ≡ true) × (node_first w n ≡ d)
  call-words n d e = go (node-case n)
    where
      go : NodeCase n → (n < nodes w) × (is_call_node w n ≡ true) × (node_first w n ≡ d)
      go (is-choice l k t) = let z : ◌≡◌ {A = ℕ} 0 1 = cc in absurd (omega arith)
      go (is-new l k t) = let z : ◌≡◌ {A = ℕ} 0 1 = cc in absurd (omega arith)
      go (is-call l k t) = (l, k, cc)
      go (is_stop t) = let z : ◌≡◌ {A = ℕ} 0 1 = cc in absurd (omega arith)

  -- what holds of every Choice's, New's or Call's words holds of every node decoded to one
  pub every-choice : (Q : ℕ → ℕ → ℕ → Type 0) → ((n : ℕ) → n < nodes w → is_choice w n ≡ true → Q n (node_first w n) (node_second w n))
      → (n f c : ℕ) → node_at w n ≡ choice f c → Q n f c
  every-choice Q g n f c e = let t = choice-words n f c e in rw (← t.2, ← t.3) (g n t.0 t.1)

  pub every-new : (Q : ℕ → ℕ → ℕ → Type 0) → ((n : ℕ) → n < nodes w → is_new w n ≡ true → Q n (node_first w n) (node_second w n))
      → (n r l : ℕ) → node_at w n ≡ new r l → Q n r l
  every-new Q g n r l e = let t = new-words n r l e in rw (← t.2, ← t.3) (g n t.0 t.1)

  pub every_call : (Q : ℕ → ℕ → Type 0) → ((n : ℕ) → n < nodes w → is_call_node w n ≡ true → Q n (node_first w n)) → (n d : ℕ) → node_at w n ≡ call d → Q n d
  every_call Q g n d e = let t = call-words n d e in rw (← t.2) (g n t.0 t.1)

  -- ---- branches

  branch-silent : (b : ℕ) → b < branches w → is_silent w b ≡ true → branch_at w b ≡ silent (next w b)
  unfolding branch_at
  branch-silent b l k = rw (lt-ltb b (branches w) l, k)

  branch-send : (b : ℕ) → b < branches w → is_send w b ≡ true → branch_at w b ≡ send (channel w b) (branch_name w b) (next w b)
  unfolding branch_at
  branch-send b l k = rw (lt-ltb b (branches w) l, Inside.send-not-silent w b k, k)

  branch-receive : (b : ℕ) → b < branches w → is_receive w b ≡ true → branch_at w b ≡ receive (channel w b) (branch_name w b) (next w b)
  unfolding branch_at
  branch-receive b l k = rw (lt-ltb b (branches w) l, Inside.receive-not-silent w b k, Inside.receive-not-send w b k, k)

  branch-outside : (b : ℕ) → branches w ≤ b → branch_at w b ≡ absent
  unfolding branch_at
  branch-outside b l = rw (le-ltb b (branches w) l)

  data BranchCase (b : ℕ) : Type 0 where
    is-silent : b < branches w → is_silent w b ≡ true → is_receive w b ≡ false → branch_at w b ≡ silent (next w b) → BranchCase b
    is-send : b < branches w → is_send w b ≡ true → is_receive w b ≡ false → branch_at w b ≡ send (channel w b) (branch_name w b) (next w b) → BranchCase b
    is-receive : b < branches w → is_receive w b ≡ true → branch_at w b ≡ receive (channel w b) (branch_name w b) (next w b) → BranchCase b
    is-absent : branches w ≤ b → branch_at w b ≡ absent → BranchCase b

module _ (w : List ℕ) (h : are_kinds_right w ≡ true) where
  branch-case : (b : ℕ) → BranchCase w b
  branch-case b = go (dec_lt b (branches w)) (true-or-false (is_silent w b)) (true-or-false (is_send w b)) (true-or-false (is_receive w b))
    where
      go : Dec (b < branches w) → (is_silent w b ≡ true) ⊎ (is_silent w b ≡ false) → (is_send w b ≡ true) ⊎ (is_send w b ≡ false)
          → (is_receive w b ≡ true) ⊎ (is_receive w b ≡ false) → BranchCase w b
      go (no d) s t r = is-absent (omega arith) (branch-outside w b (omega arith))
      go (yes l) s t (inl r) = is-receive l r (branch-receive w b l r)
      go (yes l) (inl s) t (inr r) = is-silent l s r (branch-silent w b l s)
      go (yes l) (inr s) (inl t) (inr r) = is-send l t r (branch-send w b l t)
      go (yes l) (inr s) (inr t) (inr r) =
          absurd (omega (arith, branch-kind w h b l, same_false (branch_kind w b) 0 s, same_false (branch_kind w b) 1 t, same_false (branch_kind w b) 2 r))

  -- a branch of the table is there
  pub inside-present : (b : ℕ) → b < branches w → present (branch_at w b) ≡ true
  inside-present b l = go (branch-case b)
    where
      go : BranchCase w b → present (branch_at w b) ≡ true
      go (is-silent i k r e) = rw e
      go (is-send i k r e) = rw e
      go (is-receive i k e) = rw e
      go (is-absent i e) = absurd (omega arith)

  pub present-inside : (b : ℕ) → present (branch_at w b) ≡ true → b < branches w
  present-inside b p = go (branch-case b)
    where
      go : BranchCase w b → b < branches w
      go (is-silent i k r e) = i
      go (is-send i k r e) = i
      go (is-receive i k e) = i
      go (is-absent i e) = let q : present absent ≡ true = rw e at p in false-true refl q

  next-words : (b : ℕ) → b < branches w → next_node (branch_at w b) ≡ next w b
  next-words b l = go (branch-case b)
    where
      go : BranchCase w b → next_node (branch_at w b) ≡ next w b
      go (is-silent i k r e) = rw e
      go (is-send i k r e) = rw e
      go (is-receive i k e) = rw e
      go (is-absent i e) = absurd (omega arith)

  pub binds-words : (b : ℕ) → b < branches w → binds (branch_at w b) ≡ binds_of w b
  binds-words b l = go (branch-case b)
    where
      go : BranchCase w b → binds (branch_at w b) ≡ binds_of w b
      go (is-silent i k r e) = rw (e, r)
      go (is-send i k r e) = rw (e, r)
      go (is-receive i k e) = rw (e, k)
      go (is-absent i e) = absurd (omega arith)

  pub receives-words : (b : ℕ) → b < branches w → receives (branch_at w b) ≡ is_receive w b
  receives-words b l = go (branch-case b)
    where
      go : BranchCase w b → receives (branch_at w b) ≡ is_receive w b
      go (is-silent i k r e) = rw (e, r)
      go (is-send i k r e) = rw (e, r)
      go (is-receive i k e) = rw (e, k)
      go (is-absent i e) = absurd (omega arith)

  send-words : (b a z l : ℕ) → branch_at w b ≡ send a z l → (b < branches w) × (is_send w b ≡ true) × (channel w b ≡ a) × (branch_name w b ≡ z)
  send-words b a z l e = go (branch-case b)
    where
      go : BranchCase w b → (b < branches w) × (is_send w b ≡ true) × (channel w b ≡ a) × (branch_name w b ≡ z)
      go (is-silent i k r f) = let z : ◌≡◌ {A = ℕ} 0 1 = cc in absurd (omega arith)
      go (is-send i k r f) = (i, k, cc, cc)
      go (is-receive i k f) = let z : ◌≡◌ {A = ℕ} 0 1 = cc in absurd (omega arith)
      go (is-absent i f) = let z : ◌≡◌ {A = ℕ} 0 1 = cc in absurd (omega arith)

  receive-words : (b a y l : ℕ) → branch_at w b ≡ receive a y l → (b < branches w) × (is_receive w b ≡ true) × (channel w b ≡ a) × (branch_name w b ≡ y)
  receive-words b a y l e = go (branch-case b)
    where
      go : BranchCase w b → (b < branches w) × (is_receive w b ≡ true) × (channel w b ≡ a) × (branch_name w b ≡ y)
      go (is-silent i k r f) = let z : ◌≡◌ {A = ℕ} 0 1 = cc in absurd (omega arith)
      go (is-send i k r f) = let z : ◌≡◌ {A = ℕ} 0 1 = cc in absurd (omega arith)
      go (is-receive i k f) = (i, k, cc, cc)
      go (is-absent i f) = let z : ◌≡◌ {A = ℕ} 0 1 = cc in absurd (omega arith)

  -- what holds of every branch's words holds of every branch decoded
  pub every-next : (Q : ℕ → ℕ → Type 0) → ((b : ℕ) → b < branches w → Q b (next w b))
      → (b : ℕ) → present (branch_at w b) ≡ true → Q b (next_node (branch_at w b))
  every-next Q g b p = let l = present-inside b p in rw (next-words b l) (g b l)

  pub every-send : (Q : ℕ → ℕ → ℕ → Type 0) → ((b : ℕ) → b < branches w → is_send w b ≡ true → Q b (channel w b) (branch_name w b))
      → (b a z l : ℕ) → branch_at w b ≡ send a z l → Q b a z
  every-send Q g b a z l e = let t = send-words b a z l e in rw (← t.2, ← t.3) (g b t.0 t.1)

  pub every-receive : (Q : ℕ → ℕ → ℕ → Type 0) → ((b : ℕ) → b < branches w → is_receive w b ≡ true → Q b (channel w b) (branch_name w b))
      → (b a y l : ℕ) → branch_at w b ≡ receive a y l → Q b a y
  every-receive Q g b a y l e = let t = receive-words b a y l e in rw (← t.2, ← t.3) (g b t.0 t.1)
