-- The nodes and branches of an accepted table by the words that the code reads, and the names that a node holds.
use Rattle.std.proofs.Common.{◌≡◌, ℕ, ◌+◌, ◌<◌, ◌≤◌, true, false, ◌⊎◌, List, [], ◌∷◌, length, sym, refl, ap, ◌∙◌, inl, inr, arith, lt-ltb}
use Rattle.lists.specs.Lists.{same, from, range, every}
use Rattle.lists.proofs.Tests.{true-or-false, false-true, all_hold, same_true, same-yes, same-no}
use Rattle.lists.proofs.Ranges.{every-below, from-length}
use Rattle.scheme.specs.Words.{publics, bounds, definitions, nodes, branches, arguments, names, node_kind, node_first, node_second, is_choice, is_new, is_call_node}
use Rattle.scheme.specs.Words.{branch_kind, channel, branch_name, next, formals, formal_count, argument, arguments_of}
use Rattle.scheme.specs.Owners.{held}
use Rattle.scheme.specs.Index.{held_at, HeldNames}
use Rattle.table.specs.Causes.{cause, are_kinds_right, is_name_kind_right, are_formals_zero, is_node_kind_right, is_branch_kind_right}
use Rattle.scheme.specs.Scheme.{stop, choice, new, call, silent, send, receive, node_at, branch_at, arguments_from, scheme}
use Rattle.table.proofs.Passed.{passed}
use Rattle.table.proofs.Inside
use Rattle.table.proofs.Inside.{counted}
use Rattle.table.specs.Known.{Known}
use Rattle.table.proofs.Lookup.{held-right}
use Rattle.places.specs.Places.{controls}
use Rattle.places.proofs.Controls.{controls-few}

module _ (w : List ℕ) (h : cause w ≡ 0) where
  -- ---- nodes

  kind-test : (n : ℕ) → n < nodes w → is_node_kind_right w n ≡ true
  unfolding are_kinds_right
  kind-test n l =
      let t =
      all_hold (every (is_name_kind_right w) (from (publics w) (bounds w)))
      (every (are_formals_zero w) (range (definitions w)) ∷ every (is_node_kind_right w) (range (nodes w)) ∷ every (is_branch_kind_right w) (range (branches w)) ∷ [])
      (passed w h).kinds in
      every-below (is_node_kind_right w) (nodes w) t.1.1.0 n l

  -- a node that is no Stop, Choice or New is a Call
  pub other-call : (n : ℕ) → n < nodes w → (node_kind w n ≡ 0 → ⊥) → (node_kind w n ≡ 1 → ⊥) → (node_kind w n ≡ 2 → ⊥) → node_kind w n ≡ 3
  unfolding is_node_kind_right
  other-call n l a b c = go (true-or-false (is_call_node w n))
    where
      go : (is_call_node w n ≡ true) ⊎ (is_call_node w n ≡ false) → node_kind w n ≡ 3
      go (inl e) = same_true (node_kind w n) 3 e
      go (inr e) =
          false-true refl (rw (same-no (node_kind w n) 0 a, same-no (node_kind w n) 1 b, same-no (node_kind w n) 2 c, e) at (kind-test n l))

  no_kind : (n i j : ℕ) → node_kind w n ≡ i → (i ≡ j → ⊥) → same (node_kind w n) j ≡ false
  no_kind n i j e d = same-no (node_kind w n) j (λ q. d (sym e ∙ q))

  pub stop-node : (n : ℕ) → n < nodes w → node_kind w n ≡ 0 → (scheme w).node n ≡ stop
  unfolding scheme node_at
  stop-node n l e =
      rw (
        lt-ltb n (nodes w) l,
        no_kind n 0 1 e (λ q. omega arith),
        no_kind n 0 2 e (λ q. omega arith),
        no_kind n 0 3 e (λ q. omega arith),
      )

  pub choice-node : (n : ℕ) → n < nodes w → node_kind w n ≡ 1 → (scheme w).node n ≡ choice (node_first w n) (node_second w n)
  unfolding scheme node_at
  choice-node n l e = rw (lt-ltb n (nodes w) l, same-yes (node_kind w n) 1 e)

  pub new-node : (n : ℕ) → n < nodes w → node_kind w n ≡ 2 → (scheme w).node n ≡ new (node_first w n) (node_second w n)
  unfolding scheme node_at
  new-node n l e = rw (lt-ltb n (nodes w) l, no_kind n 2 1 e (λ q. omega arith), same-yes (node_kind w n) 2 e)

  pub call-node : (n : ℕ) → n < nodes w → node_kind w n ≡ 3 → (scheme w).node n ≡ call (node_first w n)
  unfolding scheme node_at
  call-node n l e =
      rw (lt-ltb n (nodes w) l, no_kind n 3 1 e (λ q. omega arith), no_kind n 3 2 e (λ q. omega arith), same-yes (node_kind w n) 3 e)

  pub called-inside : (n : ℕ) → n < nodes w → node_kind w n ≡ 3 → node_first w n < definitions w
  called-inside n l e = (Inside.call-inside w (passed w h).ranges n l (same-yes (node_kind w n) 3 e)).0

  pub arguments-inside : (n : ℕ) → n < nodes w → node_kind w n ≡ 3 → node_second w n + formal_count w (node_first w n) ≤ arguments w
  arguments-inside n l e = (Inside.call-inside w (passed w h).ranges n l (same-yes (node_kind w n) 3 e)).1

  pub argument-inside : (a : ℕ) → a < arguments w → argument w a < names w
  argument-inside a l = Inside.argument-inside w (passed w h).ranges a l

  pub choice-inside : (n : ℕ) → n < nodes w → node_kind w n ≡ 1 → node_first w n + node_second w n ≤ branches w
  choice-inside n l e = Inside.choice-inside w (passed w h).ranges n l (same-yes (node_kind w n) 1 e)

  pub formals-of : (d : ℕ) → d < definitions w → (scheme w).formals d ≡ formals w d
  unfolding scheme
  formals-of d l = rw (lt-ltb d (definitions w) l)

  pub arguments-of : (n : ℕ) → n < nodes w → node_kind w n ≡ 3 → (scheme w).arguments n ≡ arguments_of w n
  unfolding scheme arguments_from
  arguments-of n l e = rw (lt-ltb n (nodes w) l, same-yes (node_kind w n) 3 e)

  pub held_of : (n : ℕ) → (scheme w).held n ≡ held w n
  unfolding scheme
  held_of n = refl

  -- ---- branches

  pub few-branches : branches w ≤ 256
  few-branches = (counted w (passed w h).counts).few-branches

  pub few-arguments : arguments w ≤ 256
  few-arguments = (counted w (passed w h).counts).few-arguments

  no-branch-kind : (b i j : ℕ) → branch_kind w b ≡ i → (i ≡ j → ⊥) → same (branch_kind w b) j ≡ false
  no-branch-kind b i j e d = same-no (branch_kind w b) j (λ q. d (sym e ∙ q))

  pub silent-branch : (b : ℕ) → b < branches w → branch_kind w b ≡ 0 → (scheme w).branch b ≡ silent (next w b)
  unfolding scheme branch_at
  silent-branch b l e = rw (lt-ltb b (branches w) l, same-yes (branch_kind w b) 0 e)

  pub send-branch : (b : ℕ) → b < branches w → branch_kind w b ≡ 1 → (scheme w).branch b ≡ send (channel w b) (branch_name w b) (next w b)
  unfolding scheme branch_at
  send-branch b l e = rw (lt-ltb b (branches w) l, no-branch-kind b 1 0 e (λ q. omega arith), same-yes (branch_kind w b) 1 e)

  pub receive-branch : (b : ℕ) → b < branches w → branch_kind w b ≡ 2 → (scheme w).branch b ≡ receive (channel w b) (branch_name w b) (next w b)
  unfolding scheme branch_at
  receive-branch b l e =
      rw (lt-ltb b (branches w) l, no-branch-kind b 2 0 e (λ q. omega arith), no-branch-kind b 2 1 e (λ q. omega arith), same-yes (branch_kind w b) 2 e)

  -- a branch that is not silent has a channel and a name
  pub channel-inside : (b : ℕ) → b < branches w → (branch_kind w b ≡ 0 → ⊥) → channel w b < names w
  channel-inside b l e = Inside.channel-inside w (passed w h).ranges b l (same-no (branch_kind w b) 0 e)

  pub name-inside : (b : ℕ) → b < branches w → (branch_kind w b ≡ 0 → ⊥) → branch_name w b < names w
  name-inside b l e = Inside.name-inside w (passed w h).ranges b l (same-no (branch_kind w b) 0 e)

-- ---- held names by lent words

pub held-known : (w x : List ℕ) → Known w x → (n : ℕ) → n < nodes w → held_at w x n ≡ held w n
unfolding scheme
held-known w x k n l = held-right w k.accepted x k.right n l

-- ---- control places of a node

module _ (w : List ℕ) (h : cause w ≡ 0) (n : ℕ) (l : n < nodes w) where
  abbrev Counts : ℕ → Type 0
  Counts r = (r ≡ controls (scheme w) n) × (r ≤ 65)

  counts : (r : ℕ) → r ≡ controls (scheme w) n → Counts r
  counts r e = (e, omega (arith, e, controls-few w h n))

  pub stop-counts : (r : ℕ) → node_kind w n ≡ 0 → r ≡ length ((scheme w).held n) → Counts (1 + r)
  unfolding controls
  stop-counts r e q = counts (1 + r) (rw (stop-node w h n l e) (omega (arith, q)))

  pub call-counts : (f r : ℕ) → node_kind w n ≡ 3 → f ≡ formal_count w (node_first w n) → r ≡ length ((scheme w).held n) → Counts (1 + f + r)
  unfolding controls formals
  call-counts f r e g q =
      let d = node_first w n in
      let z : length ((scheme w).formals d) ≡ f =
      ap (λ (xs : List ℕ). length xs) (formals-of w h d (called-inside w h n l e)) ∙ from-length _ (formal_count w d) ∙ sym g in
      counts (1 + f + r) (rw (call-node w h n l e) (omega (arith, q, z)))

  pub count-one : (node_kind w n ≡ 0 → ⊥) → (node_kind w n ≡ 3 → ⊥) → Counts 1
  unfolding controls
  count-one a b = go (true-or-false (is_choice w n)) (true-or-false (is_new w n))
    where
      go : (is_choice w n ≡ true) ⊎ (is_choice w n ≡ false) → (is_new w n ≡ true) ⊎ (is_new w n ≡ false) → Counts 1
      go (inl e) f = counts 1 (rw (choice-node w h n l (same_true (node_kind w n) 1 e)))
      go (inr e) (inl f) = counts 1 (rw (new-node w h n l (same_true (node_kind w n) 2 f)))
      go (inr e) (inr f) =
          absurd (b (other-call w h n l a (no 1 e) (no 2 f)))
        where
          no : (j : ℕ) → same (node_kind w n) j ≡ false → node_kind w n ≡ j → ⊥
          no j e q = false-true e (same-yes (node_kind w n) j q)

-- the same by the names as they are listed
module _ (w x : List ℕ) (k : Known w x) (n : ℕ) (l : n < nodes w) where
  held-length : (before after : List ℕ) (r : ℕ) → HeldNames (held_at w x n) before r after → r ≡ length ((scheme w).held n)
  held-length before after r q = q.count ∙ ap (λ (xs : List ℕ). length xs) (held-known w x k n l ∙ sym (held_of w k.accepted n))

  pub count-stop : (before after : List ℕ) (r : ℕ) → node_kind w n ≡ 0 → HeldNames (held_at w x n) before r after → Counts w k.accepted n l (1 + r)
  count-stop before after r e q = stop-counts w k.accepted n l r e (held-length before after r q)

  pub count-call : (before after : List ℕ) (f r : ℕ) → node_kind w n ≡ 3 → f ≡ formal_count w (node_first w n)
      → HeldNames (held_at w x n) before r after → Counts w k.accepted n l (1 + f + r)
  count-call before after f r e g q = call-counts w k.accepted n l f r e g (held-length before after r q)
