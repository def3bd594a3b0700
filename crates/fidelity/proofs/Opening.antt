-- The test that a step is open, as facts and back.
use Prim.Native.Nat.{ℕ}
use mathlib.Core.Path.{◌≡◌, refl, sym, ◌∙◌}
use mathlib.Core.Logic.{◌≢◌}
use mathlib.Core.Bool.{true, not, ◌&&◌, true≢false, false≢true}
use mathlib.Core.Option.{Option, none, some}
use Rattle.lists.specs.Lists.{same}
use Rattle.lists.proofs.Tests.{and_left, and_right, same_self, same_true, same-yes, same-no}
use Rattle.scheme.specs.Scheme.{Scheme, Node, stop, choice, new, call, Branch, absent, silent, send, receive}
use Rattle.scheme.specs.Kinds.{is_new, is_call_node, is_silent}
use Rattle.process.specs.States.{State, is_one_value}
use Rattle.process.specs.Steps.{Step, new_step, silent_step, communication, step_call, no_step, is_step_open, can_communicate, is_standing_at}
use Rattle.fidelity.specs.Inner.Runs.{Open, open-new, open-call, open-silent, open-communication}

one_value : (o q : Option ℕ) → is_one_value o q ≡ true → (v : ℕ) × (o ≡ some v) × (q ≡ some v)
one_value none q h = absurd (false≢true h)
one_value (some v) none h = absurd (false≢true h)
one_value (some v) (some u) h = (v, refl, rw (same_true v u h))

not_same : (m n : ℕ) → not (same m n) ≡ true → m ≢ n
not_same m n h e = true≢false (sym h ∙ rw (same-yes m n e))

module _ (S : Scheme) where
  -- an open step is open by the test
  pub open-test : {σ : Step} {s : State} → Open S σ s → is_step_open S s σ ≡ true
  unfolding is_step_open
  open-test (open-new {s = s} {n = n} r l h e) = rw h (same-yes (s.node (S.thread n)) n e)
  open-test (open-call {s = s} {n = n} d h e) = rw h (same-yes (s.node (S.thread n)) n e)
  open-test (open-silent {s = s} {b = b} l h e) = rw h (same-yes (s.node (S.thread (S.home b))) (S.home b) e)
  open-test (open-communication {s = s} {b = b} {r = r} a z l x y m i hs hr df es er va vx) =
      rw (
        hs,
        hr,
        same-no (S.thread (S.home b)) (S.thread (S.home r)) df,
        same-yes (s.node (S.thread (S.home b))) (S.home b) es,
        same-yes (s.node (S.thread (S.home r))) (S.home r) er,
        va,
        vx,
      )
      (same_self i)

  new-opens : (s : State) (n : ℕ) (ν : Node) → S.node n ≡ ν → (is_new ν && is_standing_at S s n) ≡ true → Open S (new_step n) s
  new-opens s n stop h e = absurd (false≢true e)
  new-opens s n (choice f c) h e = absurd (false≢true e)
  new-opens s n (new r l) h e = open-new r l h (same_true (s.node (S.thread n)) n e)
  new-opens s n (call d) h e = absurd (false≢true e)

  call_opens : (s : State) (n : ℕ) (ν : Node) → S.node n ≡ ν → (is_call_node ν && is_standing_at S s n) ≡ true → Open S (step_call n) s
  call_opens s n stop h e = absurd (false≢true e)
  call_opens s n (choice f c) h e = absurd (false≢true e)
  call_opens s n (new r l) h e = absurd (false≢true e)
  call_opens s n (call d) h e = open-call d h (same_true (s.node (S.thread n)) n e)

  silent-opens : (s : State) (b : ℕ) (β : Branch) → S.branch b ≡ β → (is_silent β && is_standing_at S s (S.home b)) ≡ true → Open S (silent_step b) s
  silent-opens s b absent h e = absurd (false≢true e)
  silent-opens s b (silent l) h e = open-silent l h (same_true (s.node (S.thread (S.home b))) (S.home b) e)
  silent-opens s b (send a z l) h e = absurd (false≢true e)
  silent-opens s b (receive a y l) h e = absurd (false≢true e)

  meet-opens : (s : State) (b : ℕ) (β : Branch) (r : ℕ) (γ : Branch) → S.branch b ≡ β → S.branch r ≡ γ → can_communicate S s b β r γ ≡ true
      → Open S (communication b r) s
  meet-opens s b absent r γ h k e = absurd (false≢true e)
  meet-opens s b (silent l) r γ h k e = absurd (false≢true e)
  meet-opens s b (send a z l) r absent h k e = absurd (false≢true e)
  meet-opens s b (send a z l) r (silent m) h k e = absurd (false≢true e)
  meet-opens s b (send a z l) r (send x y m) h k e = absurd (false≢true e)
  meet-opens s b (send a z l) r (receive x y m) h k e =
      let rest : (is_standing_at S s (S.home b) && (is_standing_at S s (S.home r) && is_one_value (s.value a) (s.value x))) ≡ true
      = and_right (not (same (S.thread (S.home b)) (S.thread (S.home r))))
      (is_standing_at S s (S.home b) && (is_standing_at S s (S.home r) && is_one_value (s.value a) (s.value x))) e in
      let last : (is_standing_at S s (S.home r) && is_one_value (s.value a) (s.value x)) ≡ true
      = and_right (is_standing_at S s (S.home b)) (is_standing_at S s (S.home r) && is_one_value (s.value a) (s.value x)) rest in
      let (i, va, vx) = one_value (s.value a) (s.value x) (and_right (is_standing_at S s (S.home r)) (is_one_value (s.value a) (s.value x)) last) in
      open-communication a z l x y m i h k
      (not_same (S.thread (S.home b)) (S.thread (S.home r))
      (and_left (not (same (S.thread (S.home b)) (S.thread (S.home r))))
      (is_standing_at S s (S.home b) && (is_standing_at S s (S.home r) && is_one_value (s.value a) (s.value x))) e))
      (same_true (s.node (S.thread (S.home b))) (S.home b)
      (and_left (is_standing_at S s (S.home b)) (is_standing_at S s (S.home r) && is_one_value (s.value a) (s.value x)) rest))
      (same_true (s.node (S.thread (S.home r))) (S.home r) (and_left (is_standing_at S s (S.home r)) (is_one_value (s.value a) (s.value x)) last)) va vx
  meet-opens s b (receive a y l) r γ h k e = absurd (false≢true e)

  -- a step that is open by the test is open
  pub test-open : (σ : Step) (s : State) → is_step_open S s σ ≡ true → Open S σ s
  unfolding is_step_open
  test-open (new_step n) s h = new-opens s n (S.node n) refl h
  test-open (silent_step b) s h = silent-opens s b (S.branch b) refl h
  test-open (communication b r) s h = meet-opens s b (S.branch b) r (S.branch r) refl refl h
  test-open (step_call n) s h = call_opens s n (S.node n) refl h
  test-open no_step s h = absurd (false≢true h)
