-- The tests of causes 2 and 5 as facts about single definitions, threads, nodes, branches and arguments.
use mathlib.Core.Path.{◌≡◌, sym, ◌∙◌}
use mathlib.Core.Bool.{Bool, true, false, ◌&&◌}
use mathlib.Core.List.{List, [], ◌∷◌}
use mathlib.Core.Logic.{◌⊎◌, inl, inr}
use Prim.Native.Nat.{ℕ, ◌+◌, ◌≤◌, ◌<◌}
use native.Mathlib.Omega.{arith}
use lib.Dec.{ltb, leb}
use borrow.Author.Tests.{ltb-true, leb-true}
use Rattle.lists.specs.Lists.{pick, same, every, range, member}
use Rattle.lists.proofs.Tests.{true-or-false, and_both, Holds, all_hold, or_cases, same_true, same-no}
use Rattle.lists.proofs.Ranges.{every-below, from_member}
use Rattle.scheme.specs.Words.{publics, bounds, definitions, threads, nodes, branches, arguments, names, is_bound_name, definition_thread, root, first_formal}
use Rattle.scheme.specs.Words.{formals, formal_count, entry, node_kind, node_first, node_second, is_stop_node, is_choice, is_new, is_call_node, branch_kind, branch_name}
use Rattle.scheme.specs.Words.{channel, next, is_silent, is_send, is_receive, argument}
use Rattle.table.specs.Causes.{are_counts_right, are_ranges_right, are_formals_inside, is_definition_inside, is_entry_inside, is_node_inside, is_branch_inside, is_argument_inside}

-- ---- a node, or a branch, has one kind

other-kind : (i j k : ℕ) → (j ≡ k → ⊥) → same i j ≡ true → same i k ≡ false
other-kind i j k d h = same-no i k (λ e. d (sym (same_true i j h) ∙ e))

module _ (w : List ℕ) where
  pub new-not-choice : (n : ℕ) → is_new w n ≡ true → is_choice w n ≡ false
  new-not-choice n h = other-kind (node_kind w n) 2 1 (λ e. omega arith) h

  pub call-not-choice : (n : ℕ) → is_call_node w n ≡ true → is_choice w n ≡ false
  call-not-choice n h = other-kind (node_kind w n) 3 1 (λ e. omega arith) h

  pub call-not-new : (n : ℕ) → is_call_node w n ≡ true → is_new w n ≡ false
  call-not-new n h = other-kind (node_kind w n) 3 2 (λ e. omega arith) h

  pub choice-not-new : (n : ℕ) → is_choice w n ≡ true → is_new w n ≡ false
  choice-not-new n h = other-kind (node_kind w n) 1 2 (λ e. omega arith) h

  pub choice-not-call : (n : ℕ) → is_choice w n ≡ true → is_call_node w n ≡ false
  choice-not-call n h = other-kind (node_kind w n) 1 3 (λ e. omega arith) h

  pub choice-not-stop : (n : ℕ) → is_choice w n ≡ true → is_stop_node w n ≡ false
  choice-not-stop n h = other-kind (node_kind w n) 1 0 (λ e. omega arith) h

  pub receive-not-silent : (b : ℕ) → is_receive w b ≡ true → is_silent w b ≡ false
  receive-not-silent b h = other-kind (branch_kind w b) 2 0 (λ e. omega arith) h

  pub send-not-silent : (b : ℕ) → is_send w b ≡ true → is_silent w b ≡ false
  send-not-silent b h = other-kind (branch_kind w b) 1 0 (λ e. omega arith) h

  pub send-not-receive : (b : ℕ) → is_send w b ≡ true → is_receive w b ≡ false
  send-not-receive b h = other-kind (branch_kind w b) 1 2 (λ e. omega arith) h

  pub receive-not-send : (b : ℕ) → is_receive w b ≡ true → is_send w b ≡ false
  receive-not-send b h = other-kind (branch_kind w b) 2 1 (λ e. omega arith) h

-- ---- cause 2

pub record Counted (w : List ℕ) : Type 0 where
  pub few-publics : publics w ≤ 32
  pub few-bounds : bounds w ≤ 32
  pub few-definitions : definitions w ≤ 32
  pub some-thread : 1 ≤ threads w
  pub few-threads : threads w ≤ 8
  pub some-node : 1 ≤ nodes w
  pub few-nodes : nodes w ≤ 256
  pub few-branches : branches w ≤ 256
  pub few-arguments : arguments w ≤ 256

pub counted : (w : List ℕ) → are_counts_right w ≡ true → Counted w
unfolding are_counts_right
counted w h =
    let t =
    all_hold (leb (publics w) 32)
    (leb (bounds w) 32 ∷ leb (definitions w) 32 ∷ leb 1 (threads w) ∷ leb (threads w) 8 ∷ leb 1 (nodes w) ∷ leb (nodes w) 256 ∷
    leb (branches w) 256 ∷ leb (arguments w) 256 ∷ []) h
    in
    record {
      few-publics = leb-true _ _ t.0;
      few-bounds = leb-true _ _ t.1.0;
      few-definitions = leb-true _ _ t.1.1.0;
      some-thread = leb-true _ _ t.1.1.1.0;
      few-threads = leb-true _ _ t.1.1.1.1.0;
      some-node = leb-true _ _ t.1.1.1.1.1.0;
      few-nodes = leb-true _ _ t.1.1.1.1.1.1.0;
      few-branches = leb-true _ _ t.1.1.1.1.1.1.1.0;
      few-arguments = leb-true _ _ t.1.1.1.1.1.1.1.1;
    }

-- ---- cause 5

record Inside (w : List ℕ) : Type 0 where
  definition_test : (d : ℕ) → d < definitions w → is_definition_inside w d ≡ true
  entry_test : (t : ℕ) → t < threads w → is_entry_inside w t ≡ true
  node_test : (n : ℕ) → n < nodes w → is_node_inside w n ≡ true
  branch_test : (b : ℕ) → b < branches w → is_branch_inside w b ≡ true
  argument_test : (a : ℕ) → a < arguments w → is_argument_inside w a ≡ true

tests : (w : List ℕ) → are_ranges_right w ≡ true → Inside w
unfolding are_ranges_right
tests w h =
    let t =
    all_hold (every (is_definition_inside w) (range (definitions w)))
    (every (is_entry_inside w) (range (threads w)) ∷ every (is_node_inside w) (range (nodes w)) ∷ every (is_branch_inside w) (range (branches w)) ∷
    every (is_argument_inside w) (range (arguments w)) ∷ []) h
    in
    record {
      definition_test = every-below (is_definition_inside w) (definitions w) t.0;
      entry_test = every-below (is_entry_inside w) (threads w) t.1.0;
      node_test = every-below (is_node_inside w) (nodes w) t.1.1.0;
      branch_test = every-below (is_branch_inside w) (branches w) t.1.1.1.0;
      argument_test = every-below (is_argument_inside w) (arguments w) t.1.1.1.1;
    }

pub bound-inside : (w : List ℕ) (x : ℕ) → is_bound_name w x ≡ true → (publics w ≤ x) × (x < names w)
bound-inside w x h = let t = and_both (leb (publics w) x) (ltb x (names w)) h in (leb-true _ _ t.0, ltb-true _ _ t.1)

module _ (w : List ℕ) (h : are_ranges_right w ≡ true) where
  definition-tests : (d : ℕ) → d < definitions w → Holds (ltb (definition_thread w d) (threads w)) (ltb (root w d) (nodes w) ∷ are_formals_inside w d ∷ [])
  unfolding is_definition_inside
  definition-tests d l =
      all_hold (ltb (definition_thread w d) (threads w)) (ltb (root w d) (nodes w) ∷ are_formals_inside w d ∷ []) ((tests w h).definition_test d l)

  pub thread-inside : (d : ℕ) → d < definitions w → definition_thread w d < threads w
  thread-inside d l = ltb-true _ _ (definition-tests d l).0

  pub root-inside : (d : ℕ) → d < definitions w → root w d < nodes w
  root-inside d l = ltb-true _ _ (definition-tests d l).1.0

  -- a non-empty range of formals is one of bound names
  formals-cases : (d : ℕ) → d < definitions w → (formal_count w d ≡ 0) ⊎ ((publics w ≤ first_formal w d) × (first_formal w d + formal_count w d ≤ names w))
  unfolding are_formals_inside
  formals-cases d l = go (or_cases (same (formal_count w d) 0) (low && high) (definition-tests d l).1.1)
    where
      low : Bool
      low = leb (publics w) (first_formal w d)

      high : Bool
      high = leb (first_formal w d + formal_count w d) (names w)

      go : (same (formal_count w d) 0 ≡ true) ⊎ ((low && high) ≡ true)
          → (formal_count w d ≡ 0) ⊎ ((publics w ≤ first_formal w d) × (first_formal w d + formal_count w d ≤ names w))
      go (inl e) = inl (same_true (formal_count w d) 0 e)
      go (inr e) = let c = and_both low high e in inr (leb-true _ _ c.0, leb-true _ _ c.1)

  pub formals-inside : (d x : ℕ) → d < definitions w → member x (formals w d) ≡ true → (publics w ≤ x) × (x < names w)
  unfolding formals
  formals-inside d x l m = go (formals-cases d l) (from_member x (first_formal w d) (formal_count w d) m)
    where
      go : (formal_count w d ≡ 0) ⊎ ((publics w ≤ first_formal w d) × (first_formal w d + formal_count w d ≤ names w))
          → (first_formal w d ≤ x) × (x < first_formal w d + formal_count w d) → (publics w ≤ x) × (x < names w)
      go (inl e) s = absurd (omega arith)
      go (inr e) s = omega arith

  pub few-formals : (d : ℕ) → d < definitions w → formal_count w d ≤ bounds w
  few-formals d l = go (formals-cases d l)
    where
      go : (formal_count w d ≡ 0) ⊎ ((publics w ≤ first_formal w d) × (first_formal w d + formal_count w d ≤ names w)) → formal_count w d ≤ bounds w
      go (inl e) = omega arith
      go (inr e) = omega arith

  pub entry-inside : (t : ℕ) → t < threads w → entry w t < definitions w
  unfolding is_entry_inside
  entry-inside t l = ltb-true _ _ ((tests w h).entry_test t l)

  pub choice-inside : (n : ℕ) → n < nodes w → is_choice w n ≡ true → node_first w n + node_second w n ≤ branches w
  unfolding is_node_inside
  choice-inside n l k = leb-true _ _ (rw k at ((tests w h).node_test n l))

  pub new-inside : (n : ℕ) → n < nodes w → is_new w n ≡ true → (is_bound_name w (node_first w n) ≡ true) × (node_second w n < nodes w)
  unfolding is_node_inside
  new-inside n l k =
      let t = and_both (is_bound_name w (node_first w n)) (ltb (node_second w n) (nodes w)) (rw (new-not-choice w n k, k) at ((tests w h).node_test n l)) in
      (t.0, ltb-true _ _ t.1)

  pub call-inside : (n : ℕ) → n < nodes w → is_call_node w n ≡ true
      → (node_first w n < definitions w) × (node_second w n + formal_count w (node_first w n) ≤ arguments w)
  unfolding is_node_inside
  call-inside n l k =
      let t =
      and_both (ltb (node_first w n) (definitions w)) (leb (node_second w n + formal_count w (node_first w n)) (arguments w))
      (rw (call-not-choice w n k, call-not-new w n k, k) at ((tests w h).node_test n l))
      in
      (ltb-true _ _ t.0, leb-true _ _ t.1)

  -- the test of a branch's names
  names-test : ℕ → Bool
  names-test b = pick (is_receive w b) (is_bound_name w (branch_name w b)) (ltb (branch_name w b) (names w))

  branch-tests : (b : ℕ) → b < branches w → (next w b < nodes w) × ((pick (is_silent w b) true (ltb (channel w b) (names w) && names-test b)) ≡ true)
  unfolding is_branch_inside names-test
  branch-tests b l =
      let t = and_both (ltb (next w b) (nodes w)) (pick (is_silent w b) true (ltb (channel w b) (names w) && names-test b)) ((tests w h).branch_test b l) in
      (ltb-true _ _ t.0, t.1)

  loud-tests : (b : ℕ) → b < branches w → is_silent w b ≡ false → (ltb (channel w b) (names w) ≡ true) × (names-test b ≡ true)
  loud-tests b l k = and_both (ltb (channel w b) (names w)) (names-test b) (rw k at (branch-tests b l).1)

  pub next-inside : (b : ℕ) → b < branches w → next w b < nodes w
  next-inside b l = (branch-tests b l).0

  pub channel-inside : (b : ℕ) → b < branches w → is_silent w b ≡ false → channel w b < names w
  channel-inside b l k = ltb-true _ _ (loud-tests b l k).0

  pub receive_inside : (b : ℕ) → b < branches w → is_receive w b ≡ true → is_bound_name w (branch_name w b) ≡ true
  unfolding names-test
  receive_inside b l k = rw k at (loud-tests b l (receive-not-silent w b k)).1

  pub name-inside : (b : ℕ) → b < branches w → is_silent w b ≡ false → branch_name w b < names w
  unfolding names-test
  name-inside b l k = go (true-or-false (is_receive w b))
    where
      go : (is_receive w b ≡ true) ⊎ (is_receive w b ≡ false) → branch_name w b < names w
      go (inl r) = (bound-inside w (branch_name w b) (receive_inside b l r)).1
      go (inr r) = ltb-true _ _ (rw r at (loud-tests b l k).1)

  pub argument-inside : (a : ℕ) → a < arguments w → argument w a < names w
  unfolding is_argument_inside
  argument-inside a l = ltb-true _ _ ((tests w h).argument_test a l)
