-- Cause 7: each bound name has one binder, of its own kind.
use mathlib.Core.Path.{◌≡◌, refl, sym, ◌∙◌}
use mathlib.Core.Bool.{true, false, ◌&&◌}
use mathlib.Core.List.{List, [], ◌∷◌}
use mathlib.Core.Logic.{◌⊎◌, inl, inr}
use Prim.Native.Nat.{ℕ, ◌≤◌, ◌<◌}
use native.Mathlib.Decide.{ℕ_discrete}
use native.Mathlib.Omega.{arith}
use borrow.Author.Tests.{lt-ltb, le-ltb}
use Rattle.lists.specs.Lists.{pick, bit, same, every, from, member, times}
use Rattle.lists.proofs.Tests.{true-or-false, and_intro, and_both, all_hold, bit-small, same_self, same_true, same-yes, same-no}
use Rattle.lists.proofs.Ranges.{every-at}
use Rattle.lists.proofs.First.{Search, hits, found, some-hit, hit-some, found_none, found_nowhere, found-one, tells-some}
use Rattle.scheme.specs.Words.{publics, bounds, definitions, nodes, branches, names, name_kind_of, formals, node_first, is_new, branch_name, is_receive}
use Rattle.table.specs.Causes.{are_ranges_right, is_binding_right, bound_right, new_names, received_names, formal_names}
use Rattle.scheme.specs.Scheme.{by_new, by_receive, by_formal, unbound, pick_binder, binder_of}
use Rattle.table.proofs.Inside

-- what binds name x
pub data Bound (w : List ℕ) (x : ℕ) : Type 0 where
  by-new : (n : ℕ) → n < nodes w → is_new w n ≡ true → node_first w n ≡ x → Bound w x
  by-receive : (b : ℕ) → b < branches w → is_receive w b ≡ true → branch_name w b ≡ x → Bound w x
  by-formal : (d : ℕ) → d < definitions w → member x (formals w d) ≡ true → Bound w x

-- ---- the tests

record Binding (w : List ℕ) : Type 0 where
  new_test : (x : ℕ) → publics w ≤ x → x < names w → bound_right w (new_names w) 0 x ≡ true
  receive_test : (x : ℕ) → publics w ≤ x → x < names w → bound_right w (received_names w) 1 x ≡ true
  formal_test : (x : ℕ) → publics w ≤ x → x < names w → bound_right w (formal_names w) 2 x ≡ true

tests : (w : List ℕ) → is_binding_right w ≡ true → Binding w
unfolding is_binding_right
tests w h =
    let t =
    all_hold (every (bound_right w (new_names w) 0) (from (publics w) (bounds w)))
    (every (bound_right w (received_names w) 1) (from (publics w) (bounds w)) ∷ every (bound_right w (formal_names w) 2) (from (publics w) (bounds w)) ∷ []) h
    in
    record {
      new_test = every-at (bound_right w (new_names w) 0) (publics w) (bounds w) t.0;
      receive_test = every-at (bound_right w (received_names w) 1) (publics w) (bounds w) t.1.0;
      formal_test = every-at (bound_right w (formal_names w) 2) (publics w) (bounds w) t.1.1;
    }

-- a binder of a kind stands once among those of its kind, and not among the others
times-kind : (w binders : List ℕ) (kind x : ℕ) → bound_right w binders kind x ≡ true → times x binders ≡ bit (same (name_kind_of w x) kind)
unfolding bound_right
times-kind w binders kind x h = same_true (times x binders) (bit (same (name_kind_of w x) kind)) h

bit-kind : (i kind : ℕ) → 1 ≤ bit (same i kind) → i ≡ kind
bit-kind i kind l = go (true-or-false (same i kind))
  where
    go : (same i kind ≡ true) ⊎ (same i kind ≡ false) → i ≡ kind
    go (inl e) = same_true i kind e
    go (inr e) = let z : 1 ≤ 0 = rw e at l in absurd (omega arith)

bit-other : (i j kind : ℕ) → i ≡ j → (j ≡ kind → ⊥) → bit (same i kind) ≡ 0
bit-other i j kind e d = rw (same-no i kind (λ f. d (sym e ∙ f)))

module _ (w : List ℕ) where
  pick-new : (n b d : ℕ) → n < nodes w → pick_binder w n b d ≡ by_new n
  unfolding pick_binder
  pick-new n b d l = rw (lt-ltb n (nodes w) l)

  pick-receive : (n b d : ℕ) → nodes w ≤ n → b < branches w → pick_binder w n b d ≡ by_receive b
  unfolding pick_binder
  pick-receive n b d h l = rw (le-ltb n (nodes w) h, lt-ltb b (branches w) l)

  pick-formal : (n b d : ℕ) → nodes w ≤ n → branches w ≤ b → d < definitions w → pick_binder w n b d ≡ by_formal d
  unfolding pick_binder
  pick-formal n b d h i l = rw (le-ltb n (nodes w) h, le-ltb b (branches w) i, lt-ltb d (definitions w) l)

  pick-none : (n b d : ℕ) → nodes w ≤ n → branches w ≤ b → definitions w ≤ d → pick_binder w n b d ≡ unbound
  unfolding pick_binder
  pick-none n b d h i l = rw (le-ltb n (nodes w) h, le-ltb b (branches w) i, le-ltb d (definitions w) l)

-- the News, receives and definitions that bind name x
module _ (w : List ℕ) (x : ℕ) where
  abbrev new_search : Search x
  new_search = record {
    count = nodes w;
    lists = λ n. pick (is_new w n) (node_first w n ∷ []) [];
    test = λ n. is_new w n && same (node_first w n) x;
    tells = λ n. tells-some x (node_first w n) (is_new w n);
  }

  abbrev receive_search : Search x
  receive_search = record {
    count = branches w;
    lists = λ b. pick (is_receive w b) (branch_name w b ∷ []) [];
    test = λ b. is_receive w b && same (branch_name w b) x;
    tells = λ b. tells-some x (branch_name w b) (is_receive w b);
  }

  abbrev formal_search : Search x
  formal_search = record { count = definitions w; lists = formals w; test = λ d. member x (formals w d); tells = λ d. refl }

  binder-is : (n b d : ℕ) → found new_search ≡ n → found receive_search ≡ b → found formal_search ≡ d → binder_of w x ≡ pick_binder w n b d
  unfolding binder_of
  binder-is n b d e f g = rw (e, f, g)

module _ (w : List ℕ) (r : are_ranges_right w ≡ true) (h : is_binding_right w ≡ true) where
  -- ---- how often a bound name is bound, by kind

  news : (x : ℕ) → publics w ≤ x → x < names w → hits (new_search w x) ≡ bit (same (name_kind_of w x) 0)
  unfolding new_names
  news x l u = times-kind w (new_names w) 0 x ((tests w h).new_test x l u)

  receives : (x : ℕ) → publics w ≤ x → x < names w → hits (receive_search w x) ≡ bit (same (name_kind_of w x) 1)
  unfolding received_names
  receives x l u = times-kind w (received_names w) 1 x ((tests w h).receive_test x l u)

  formals-hits : (x : ℕ) → publics w ≤ x → x < names w → hits (formal_search w x) ≡ bit (same (name_kind_of w x) 2)
  unfolding formal_names
  formals-hits x l u = times-kind w (formal_names w) 2 x ((tests w h).formal_test x l u)

  pub received-once : (x : ℕ) → publics w ≤ x → x < names w → times x (received_names w) ≤ 1
  unfolding received_names
  received-once x l u = omega (arith, receives x l u, bit-small (same (name_kind_of w x) 1))

  -- ---- what binds

  new-bound : (n : ℕ) → n < nodes w → is_new w n ≡ true → (publics w ≤ node_first w n) × (node_first w n < names w)
  new-bound n l k = Inside.bound-inside w (node_first w n) (Inside.new-inside w r n l k).0

  receive-bound : (b : ℕ) → b < branches w → is_receive w b ≡ true → (publics w ≤ branch_name w b) × (branch_name w b < names w)
  receive-bound b l k = Inside.bound-inside w (branch_name w b) (Inside.receive_inside w r b l k)

  new-test : (n : ℕ) → is_new w n ≡ true → (new_search w (node_first w n)).test n ≡ true
  new-test n k = and_intro (is_new w n) (same (node_first w n) (node_first w n)) k (same_self (node_first w n))

  receive-test : (b : ℕ) → is_receive w b ≡ true → (receive_search w (branch_name w b)).test b ≡ true
  receive-test b k = and_intro (is_receive w b) (same (branch_name w b) (branch_name w b)) k (same_self (branch_name w b))

  -- ---- a binder binds names of its own kind

  pub new-kind : (n : ℕ) → n < nodes w → is_new w n ≡ true → name_kind_of w (node_first w n) ≡ 0
  new-kind n l k =
      let i = new-bound n l k in
      bit-kind (name_kind_of w (node_first w n)) 0 (omega (arith, news (node_first w n) i.0 i.1, some-hit (new_search w (node_first w n)) n l (new-test n k)))

  pub receive-kind : (b : ℕ) → b < branches w → is_receive w b ≡ true → name_kind_of w (branch_name w b) ≡ 1
  receive-kind b l k =
      let i = receive-bound b l k in
      bit-kind (name_kind_of w (branch_name w b)) 1
      (omega (arith, receives (branch_name w b) i.0 i.1, some-hit (receive_search w (branch_name w b)) b l (receive-test b k)))

  pub formal-kind : (d x : ℕ) → d < definitions w → member x (formals w d) ≡ true → name_kind_of w x ≡ 2
  formal-kind d x l m =
      let i = Inside.formals-inside w r d x l m in
      bit-kind (name_kind_of w x) 2 (omega (arith, formals-hits x i.0 i.1, some-hit (formal_search w x) d l m))

  -- ---- and is the one that the name has

  pub binder-new : (n : ℕ) → n < nodes w → is_new w n ≡ true → binder_of w (node_first w n) ≡ by_new n
  binder-new n l k =
      binder-is w x n (found (receive_search w x)) (found (formal_search w x)) (found-one (new_search w x) n few l (new-test n k)) refl refl ∙
      pick-new w n (found (receive_search w x)) (found (formal_search w x)) l
    where
      x : ℕ
      x = node_first w n

      few : hits (new_search w x) ≤ 1
      few = let i = new-bound n l k in omega (arith, news x i.0 i.1, bit-small (same (name_kind_of w x) 0))

  pub binder-receive : (b : ℕ) → b < branches w → is_receive w b ≡ true → binder_of w (branch_name w b) ≡ by_receive b
  binder-receive b l k =
      binder-is w x (nodes w) b (found (formal_search w x)) (found_none (new_search w x) none-new)
      (found-one (receive_search w x) b few l (receive-test b k)) refl ∙
      pick-receive w (nodes w) b (found (formal_search w x)) (omega arith) l
    where
      x : ℕ
      x = branch_name w b

      i : (publics w ≤ x) × (x < names w)
      i = receive-bound b l k

      none-new : hits (new_search w x) ≡ 0
      none-new = news x i.0 i.1 ∙ bit-other (name_kind_of w x) 1 0 (receive-kind b l k) (λ e. omega arith)

      few : hits (receive_search w x) ≤ 1
      few = omega (arith, receives x i.0 i.1, bit-small (same (name_kind_of w x) 1))

  pub binder-formal : (d x : ℕ) → d < definitions w → member x (formals w d) ≡ true → binder_of w x ≡ by_formal d
  binder-formal d x l m =
      binder-is w x (nodes w) (branches w) d (found_none (new_search w x) none-new) (found_none (receive_search w x) none-receive)
      (found-one (formal_search w x) d few l m) ∙
      pick-formal w (nodes w) (branches w) d (omega arith) (omega arith) l
    where
      i : (publics w ≤ x) × (x < names w)
      i = Inside.formals-inside w r d x l m

      none-new : hits (new_search w x) ≡ 0
      none-new = news x i.0 i.1 ∙ bit-other (name_kind_of w x) 2 0 (formal-kind d x l m) (λ e. omega arith)

      none-receive : hits (receive_search w x) ≡ 0
      none-receive = receives x i.0 i.1 ∙ bit-other (name_kind_of w x) 2 1 (formal-kind d x l m) (λ e. omega arith)

      few : hits (formal_search w x) ≤ 1
      few = omega (arith, formals-hits x i.0 i.1, bit-small (same (name_kind_of w x) 2))

  -- ---- every bound name has a binder, and no other name has one

  pub bound : (x : ℕ) → publics w ≤ x → x < names w → name_kind_of w x ≤ 2 → Bound w x
  bound x l u k = go (ℕ_discrete (name_kind_of w x) 0) (ℕ_discrete (name_kind_of w x) 1)
    where
      one : (kind : ℕ) → name_kind_of w x ≡ kind → bit (same (name_kind_of w x) kind) ≡ 1
      one kind e = rw (same-yes (name_kind_of w x) kind e)

      new : name_kind_of w x ≡ 0 → Bound w x
      new e =
          let s = hit-some (new_search w x) (omega (arith, news x l u, one 0 e)) in
          let t = and_both (is_new w s.0) (same (node_first w s.0) x) s.2 in
          by-new s.0 s.1 t.0 (same_true (node_first w s.0) x t.1)

      receive : name_kind_of w x ≡ 1 → Bound w x
      receive e =
          let s = hit-some (receive_search w x) (omega (arith, receives x l u, one 1 e)) in
          let t = and_both (is_receive w s.0) (same (branch_name w s.0) x) s.2 in
          by-receive s.0 s.1 t.0 (same_true (branch_name w s.0) x t.1)

      formal : name_kind_of w x ≡ 2 → Bound w x
      formal e = let s = hit-some (formal_search w x) (omega (arith, formals-hits x l u, one 2 e)) in by-formal s.0 s.1 s.2

      go : Dec (name_kind_of w x ≡ 0) → Dec (name_kind_of w x ≡ 1) → Bound w x
      go (yes e) f = new e
      go (no d) (yes f) = receive f
      go (no d) (no f) = formal (omega arith)

  pub outside-unbound : (x : ℕ) → (x < publics w) ⊎ (names w ≤ x) → binder_of w x ≡ unbound
  outside-unbound x o =
      binder-is w x (nodes w) (branches w) (definitions w)
      (found_nowhere (new_search w x) new) (found_nowhere (receive_search w x) receive) (found_nowhere (formal_search w x) formal) ∙
      pick-none w (nodes w) (branches w) (definitions w) (omega arith) (omega arith) (omega arith)
    where
      not-inside : (x < publics w) ⊎ (names w ≤ x) → (publics w ≤ x) × (x < names w) → ⊥
      not-inside (inl a) i = omega arith
      not-inside (inr a) i = omega arith

      new : (n : ℕ) → n < nodes w → (is_new w n && same (node_first w n) x) ≡ true → ⊥
      new n l t =
          let s = and_both (is_new w n) (same (node_first w n) x) t in
          not-inside o (rw (same_true (node_first w n) x s.1) at (new-bound n l s.0))

      receive : (b : ℕ) → b < branches w → (is_receive w b && same (branch_name w b) x) ≡ true → ⊥
      receive b l t =
          let s = and_both (is_receive w b) (same (branch_name w b) x) t in
          not-inside o (rw (same_true (branch_name w b) x s.1) at (receive-bound b l s.0))

      formal : (d : ℕ) → d < definitions w → member x (formals w d) ≡ true → ⊥
      formal d l m = not-inside o (Inside.formals-inside w r d x l m)
