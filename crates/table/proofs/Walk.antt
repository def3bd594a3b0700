-- One step of the scope check into a body, in terms of the words that the code has read.
use mathlib.Core.Path.{◌≡◌, sym, ◌∙◌}
use mathlib.Core.Bool.{Bool, true, false}
use mathlib.Core.List.{List, ◌++◌, append-nil}
use Prim.Native.Nat.{ℕ, ◌+◌, ◌-◌, ◌≤◌, ◌<◌}
use native.Mathlib.Omega.{arith}
use Rattle.lists.specs.Lists.{word, from, every, member}
use Rattle.lists.proofs.Tests.{same-yes, same-no}
use Rattle.lists.proofs.Ranges.{member-from, every_map}
use Rattle.lists.proofs.Members.{member-map}
use Rattle.scheme.specs.Words.{nodes, branches, formal_count, node_kind, node_first, node_second, is_new, is_call_node, is_choice}
use Rattle.scheme.specs.Words.{branches_of, branch_kind, channel, branch_name, next, is_silent, is_receive, argument, arguments_of}
use Rattle.scheme.specs.Owners.{held, binds_of}
use Rattle.table.specs.Causes.{usable, is_branch_scoped}
use Rattle.scheme.specs.Spans.{tallied}
use Rattle.table.specs.Inner.Shaped.{Shaped, BranchOf}
use Rattle.table.specs.Inner.Scope.{held_tally, body_scoped, branch_body_scoped}
use Rattle.table.proofs.Parts.{from-to}
use Rattle.table.proofs.Bodies.{not-held, is_held, tally-below, tally-same, body_new, body_call, body-choice}

-- a name that was read, with its count: held or not
module _ (w : List ℕ) (n x r v : ℕ) (hs : List ℕ) (a : hs ≡ held_tally w n) (b : r ≡ x) (l : x < 64) (e : v ≡ word hs r) where
  pub unheld : v ≡ 0 → usable w n x ≡ false
  unheld z = not-held w n x l (rw (← a, ← b) (sym e ∙ z))

  pub holds : (v ≡ 0 → ⊥) → usable w n x ≡ true
  holds z = is_held w n x l (rw (← a, ← b, ← e) z)

-- ---- a branch: its kind, its next node l and the names held at its node were read

module _ (w : List ℕ) (S : Shaped w) (n b : ℕ) (c : BranchOf w n b) (hs : List ℕ) (h : hs ≡ held_tally w n) (kind l : ℕ) (k : kind ≡ branch_kind w b) (e : l ≡ next w b) where
  pub next-inside : (n < l) × (l < nodes w)
  next-inside = rw e (S.next-inside n b c.inside c.choice c.low c.high)

  names-below : held w (next w b) ≡ held w n ++ binds_of w b
  names-below = S.next-held n b c.inside c.choice c.low c.high

  pub same-held : (kind ≡ 2 → ⊥) → hs ≡ held_tally w l
  same-held z =
      let q : is_receive w b ≡ false = same-no (branch_kind w b) 2 (λ t. z (k ∙ t)) in
      rw (h, e) (tally-same w n (next w b) (names-below ∙ rw q (append-nil (held w n))))

  pub more-held : (y : ℕ) (hs' : List ℕ) → kind ≡ 2 → y ≡ branch_name w b → hs' ≡ tallied hs y → hs' ≡ held_tally w l
  more-held y hs' z ey t =
      let q : is_receive w b ≡ true = same-yes (branch_kind w b) 2 (sym k ∙ z) in
      rw (t, h, ey, e) (tally-below w n (next w b) (branch_name w b) (names-below ∙ rw q))

  pub silent-body : kind ≡ 0 → (r : Bool) → r ≡ body_scoped w l → r ≡ branch_body_scoped w n b
  unfolding is_branch_scoped
  silent-body z r t = rw (same-yes (branch_kind w b) 0 (sym k ∙ z)) (rw e at t)

  module _ (loud : kind ≡ 0 → ⊥) where
    sounds : is_silent w b ≡ false
    sounds = same-no (branch_kind w b) 0 (λ t. loud (k ∙ t))

    inside : b < branches w
    inside = omega (arith, S.choice-inside n c.inside c.choice, c.high)

    channel-small : channel w b < 64
    channel-small = omega (arith, S.channel-inside b inside sounds, S.few-publics, S.few-bounds)

    name-small : branch_name w b < 64
    name-small = omega (arith, S.name-inside b inside sounds, S.few-publics, S.few-bounds)

    module _ (a v : ℕ) (ea : a ≡ channel w b) (ev : v ≡ word hs a) where
      pub unheard-body : v ≡ 0 → false ≡ branch_body_scoped w n b
      unfolding is_branch_scoped
      unheard-body z = rw (sounds, unheld w n (channel w b) a v hs h ea channel-small ev z)

      module _ (heard : v ≡ 0 → ⊥) where
        pub receive-body : kind ≡ 2 → (r : Bool) → r ≡ body_scoped w l → r ≡ branch_body_scoped w n b
        unfolding is_branch_scoped
        receive-body z r t =
            rw (sounds, holds w n (channel w b) a v hs h ea channel-small ev heard, same-yes (branch_kind w b) 2 (sym k ∙ z)) (rw e at t)

        module _ (sends : kind ≡ 2 → ⊥) (y u : ℕ) (ey : y ≡ branch_name w b) (eu : u ≡ word hs y) where
          pub unsent-body : u ≡ 0 → false ≡ branch_body_scoped w n b
          unfolding is_branch_scoped
          unsent-body z =
              rw (
                sounds,
                holds w n (channel w b) a v hs h ea channel-small ev heard,
                same-no (branch_kind w b) 2 (λ t. sends (k ∙ t)),
                unheld w n (branch_name w b) y u hs h ey name-small eu z,
              )

          pub send-body : (u ≡ 0 → ⊥) → (r : Bool) → r ≡ body_scoped w l → r ≡ branch_body_scoped w n b
          unfolding is_branch_scoped
          send-body z r t =
              rw (
                sounds,
                holds w n (channel w b) a v hs h ea channel-small ev heard,
                same-no (branch_kind w b) 2 (λ t. sends (k ∙ t)),
                holds w n (branch_name w b) y u hs h ey name-small eu z,
              )
              (rw e at t)

-- ---- a node: its kind and its two fields were read, and the names held there

module _ (w : List ℕ) (S : Shaped w) (n : ℕ) (i : n < nodes w) (hs : List ℕ) (h : hs ≡ held_tally w n) (kind f s : ℕ) (k : kind ≡ node_kind w n)
    (ef : f ≡ node_first w n) (es : s ≡ node_second w n) where
  is-new : kind ≡ 2 → is_new w n ≡ true
  is-new z = same-yes (node_kind w n) 2 (sym k ∙ z)

  is-call : kind ≡ 3 → is_call_node w n ≡ true
  is-call z = same-yes (node_kind w n) 3 (sym k ∙ z)

  is-choice : kind ≡ 1 → is_choice w n ≡ true
  is-choice z = same-yes (node_kind w n) 1 (sym k ∙ z)

  not_new : (kind ≡ 2 → ⊥) → is_new w n ≡ false
  not_new z = same-no (node_kind w n) 2 (λ t. z (k ∙ t))

  not_call : (kind ≡ 3 → ⊥) → is_call_node w n ≡ false
  not_call z = same-no (node_kind w n) 3 (λ t. z (k ∙ t))

  pub child-inside : kind ≡ 2 → (n < s) × (s < nodes w)
  child-inside z = rw es (S.new-inside n i (is-new z))

  pub child-held : kind ≡ 2 → (hs' : List ℕ) → hs' ≡ tallied hs f → hs' ≡ held_tally w s
  child-held z hs' t = rw (t, h, ef, es) (tally-below w n (node_second w n) (node_first w n) (S.new-held n i (is-new z)))

  pub child-body : kind ≡ 2 → (r : Bool) → r ≡ body_scoped w s → r ≡ body_scoped w n
  child-body z r t = (rw es at t) ∙ sym (body_new w S n i (is-new z))

  module _ (z : kind ≡ 3) (q : ℕ) (eq : q ≡ formal_count w f) where
    pub arguments-small : (a : ℕ) → s ≤ a → a < s + q → argument w a < 64
    unfolding arguments_of
    arguments-small a l u =
        let m : member (argument w a) (arguments_of w n) ≡ true
        = member-map (argument w) a (from (node_second w n) (formal_count w (node_first w n)))
        (member-from a (node_second w n) (formal_count w (node_first w n)) (rw (← es) l) (rw (← es, ← ef, ← eq) u)) in
        omega (arith, S.argument-inside n (argument w a) i (is-call z) m, S.few-publics, S.few-bounds)

    pub call-body : (r : Bool) → r ≡ every (λ a. usable w n (argument w a)) (from s (s + q - s)) → r ≡ body_scoped w n
    unfolding arguments_of
    call-body r t =
        t ∙ rw (from-to s q, body_call w S n i (is-call z), es, eq, ef) (sym (every_map (usable w n) (argument w) (from (node_second w n) (formal_count w (node_first w n)))))

  pub stop-body : (kind ≡ 2 → ⊥) → (kind ≡ 3 → ⊥) → (kind ≡ 1 → ⊥) → true ≡ body_scoped w n
  unfolding branches_of every
  stop-body z y x = sym (body-choice w S n i (not_new z) (not_call y) ∙ rw (same-no (node_kind w n) 1 (λ t. x (k ∙ t))))

  pub choice-body : kind ≡ 1 → body_scoped w n ≡ every (branch_body_scoped w n) (from f (f + s - f))
  unfolding branches_of
  choice-body z =
      body-choice w S n i (not_new (λ t. let x : ◌≡◌ {A = ℕ} 1 2 = sym z ∙ t in omega arith)) (not_call (λ t. let x : ◌≡◌ {A = ℕ} 1 3 = sym z ∙ t in omega arith)) ∙
      rw (from-to f s, is-choice z, ef, es)

  pub branch-of : kind ≡ 1 → (b : ℕ) → f ≤ b → b < f + s → BranchOf w n b
  branch-of z b l u = record { inside = i; choice = is-choice z; low = rw (← ef) l; high = rw (← ef, ← es) u }
