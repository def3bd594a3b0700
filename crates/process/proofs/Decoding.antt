-- What the code reads of a table, and what a Scheme says of it.
use mathlib.Core.Path.{◌≡◌, refl}
use mathlib.Core.Bool.{Bool, true, false, ◌&&◌}
use mathlib.Core.List.{List}
use Prim.Native.Nat.{ℕ}
use lib.Dec.{ltb}
use Rattle.lists.specs.Lists.{pick}
use Rattle.lists.proofs.Tests.{and_left, and_right}
use Rattle.scheme.specs.Words.{nodes, branches, is_choice, is_new, is_call_node, is_silent, is_send, is_receive}
use Rattle.scheme.specs.Words.{node_first, node_second, channel, branch_name, next}
use Rattle.scheme.specs.Scheme.{scheme, stop, choice, new, call, silent, send, receive, node_at, branch_at}
use Rattle.scheme.specs.Kinds
use Rattle.table.proofs.Inside

-- ---- kinds

module _ (w : List ℕ) (n : ℕ) where
  call-or-stop-no-new : (b : Bool) → Kinds.is_new (pick b (call (node_first w n)) stop) ≡ false
  call-or-stop-no-new true = refl
  call-or-stop-no-new false = refl

  pub is-new : Kinds.is_new (node_at w n) ≡ (ltb n (nodes w) && is_new w n)
  unfolding node_at
  is-new = go (ltb n (nodes w)) refl (is_new w n) refl (is_choice w n) refl
    where
      go : (a : Bool) → ltb n (nodes w) ≡ a → (b : Bool) → is_new w n ≡ b → (c : Bool) → is_choice w n ≡ c
          → Kinds.is_new (node_at w n) ≡ (ltb n (nodes w) && is_new w n)
      go false l b k c h = rw l
      go true l true k c h = rw (l, Inside.new-not-choice w n k, k)
      go true l false k true h = rw (l, h, k)
      go true l false k false h = rw (l, h, k) (call-or-stop-no-new (is_call_node w n))

  pub is-call : Kinds.is_call_node (node_at w n) ≡ (ltb n (nodes w) && is_call_node w n)
  unfolding node_at
  is-call = go (ltb n (nodes w)) refl (is_call_node w n) refl (is_choice w n) refl (is_new w n) refl
    where
      go : (a : Bool) → ltb n (nodes w) ≡ a → (b : Bool) → is_call_node w n ≡ b → (c : Bool) → is_choice w n ≡ c → (d : Bool) → is_new w n ≡ d
          → Kinds.is_call_node (node_at w n) ≡ (ltb n (nodes w) && is_call_node w n)
      go false l b k c h d i = rw l
      go true l true k c h d i = rw (l, Inside.call-not-choice w n k, Inside.call-not-new w n k, k)
      go true l false k true h d i = rw (l, h, k)
      go true l false k false h true i = rw (l, h, i, k)
      go true l false k false h false i = rw (l, h, i, k)

  pub stop-choice : (ltb n (nodes w) && is_choice w n) ≡ true → Kinds.is_stop_node (node_at w n) ≡ false
  unfolding node_at
  stop-choice h = rw (and_left (ltb n (nodes w)) (is_choice w n) h, and_right (ltb n (nodes w)) (is_choice w n) h)

  pub stop-new : (ltb n (nodes w) && is_new w n) ≡ true → Kinds.is_stop_node (node_at w n) ≡ false
  unfolding node_at
  stop-new h = let k : is_new w n ≡ true = and_right (ltb n (nodes w)) _ h in rw (and_left (ltb n (nodes w)) (is_new w n) h, Inside.new-not-choice w n k, k)

  pub stop-call : (ltb n (nodes w) && is_call_node w n) ≡ true → Kinds.is_stop_node (node_at w n) ≡ false
  unfolding node_at
  stop-call h =
      let k : is_call_node w n ≡ true = and_right (ltb n (nodes w)) _ h in
      rw (and_left (ltb n (nodes w)) (is_call_node w n) h, Inside.call-not-choice w n k, Inside.call-not-new w n k, k)

  pub stop-else : (ltb n (nodes w) && is_choice w n) ≡ false → (ltb n (nodes w) && is_new w n) ≡ false → (ltb n (nodes w) && is_call_node w n) ≡ false
      → Kinds.is_stop_node (node_at w n) ≡ true
  unfolding node_at
  stop-else a b c = go (ltb n (nodes w)) refl
    where
      go : (d : Bool) → ltb n (nodes w) ≡ d → Kinds.is_stop_node (node_at w n) ≡ true
      go false l = rw l
      go true l = rw (l, rw l at a, rw l at b, rw l at c)

  pub choice-at : (ltb n (nodes w) && is_choice w n) ≡ true → (scheme w).node n ≡ choice (node_first w n) (node_second w n)
  unfolding scheme node_at
  choice-at h = rw (and_left (ltb n (nodes w)) (is_choice w n) h, and_right (ltb n (nodes w)) (is_choice w n) h)

  pub new-at : (ltb n (nodes w) && is_new w n) ≡ true → (scheme w).node n ≡ new (node_first w n) (node_second w n)
  unfolding scheme node_at
  new-at h = let k : is_new w n ≡ true = and_right (ltb n (nodes w)) _ h in rw (and_left (ltb n (nodes w)) (is_new w n) h, Inside.new-not-choice w n k, k)

  pub call_at : (ltb n (nodes w) && is_call_node w n) ≡ true → (scheme w).node n ≡ call (node_first w n)
  unfolding scheme node_at
  call_at h =
      let k : is_call_node w n ≡ true = and_right (ltb n (nodes w)) _ h in
      rw (and_left (ltb n (nodes w)) (is_call_node w n) h, Inside.call-not-choice w n k, Inside.call-not-new w n k, k)

  pub new-there : Kinds.is_new ((scheme w).node n) ≡ (ltb n (nodes w) && is_new w n)
  unfolding scheme
  new-there = is-new

  pub call-there : Kinds.is_call_node ((scheme w).node n) ≡ (ltb n (nodes w) && is_call_node w n)
  unfolding scheme
  call-there = is-call

module _ (w : List ℕ) (b : ℕ) where
  pub is-silent : Kinds.is_silent (branch_at w b) ≡ (ltb b (branches w) && is_silent w b)
  unfolding branch_at
  is-silent = go (ltb b (branches w)) refl (is_silent w b) refl (is_send w b) refl (is_receive w b) refl
    where
      go : (a : Bool) → ltb b (branches w) ≡ a → (s : Bool) → is_silent w b ≡ s → (t : Bool) → is_send w b ≡ t → (r : Bool) → is_receive w b ≡ r
          → Kinds.is_silent (branch_at w b) ≡ (ltb b (branches w) && is_silent w b)
      go false l s e t f r g = rw l
      go true l true e t f r g = rw (l, e)
      go true l false e true f r g = rw (l, e, f)
      go true l false e false f true g = rw (l, e, f, g)
      go true l false e false f false g = rw (l, e, f, g)

  pub is-send : Kinds.is_send (branch_at w b) ≡ (ltb b (branches w) && is_send w b)
  unfolding branch_at
  is-send = go (ltb b (branches w)) refl (is_send w b) refl (is_silent w b) refl (is_receive w b) refl
    where
      go : (a : Bool) → ltb b (branches w) ≡ a → (t : Bool) → is_send w b ≡ t → (s : Bool) → is_silent w b ≡ s → (r : Bool) → is_receive w b ≡ r
          → Kinds.is_send (branch_at w b) ≡ (ltb b (branches w) && is_send w b)
      go false l t f s e r g = rw l
      go true l true f s e r g = rw (l, Inside.send-not-silent w b f, f)
      go true l false f true e r g = rw (l, e, f)
      go true l false f false e true g = rw (l, e, f, g)
      go true l false f false e false g = rw (l, e, f, g)

  pub is-receive : Kinds.is_receive (branch_at w b) ≡ (ltb b (branches w) && is_receive w b)
  unfolding branch_at
  is-receive = go (ltb b (branches w)) refl (is_receive w b) refl (is_silent w b) refl (is_send w b) refl
    where
      go : (a : Bool) → ltb b (branches w) ≡ a → (t : Bool) → is_receive w b ≡ t → (s : Bool) → is_silent w b ≡ s → (r : Bool) → is_send w b ≡ r
          → Kinds.is_receive (branch_at w b) ≡ (ltb b (branches w) && is_receive w b)
      go false l t f s e r g = rw l
      go true l true f s e r g = rw (l, Inside.receive-not-silent w b f, Inside.receive-not-send w b f, f)
      go true l false f true e r g = rw (l, e, f)
      go true l false f false e true g = rw (l, e, g, f)
      go true l false f false e false g = rw (l, e, g, f)

  pub silent-at : (ltb b (branches w) && is_silent w b) ≡ true → (scheme w).branch b ≡ silent (next w b)
  unfolding scheme branch_at
  silent-at h = rw (and_left (ltb b (branches w)) (is_silent w b) h, and_right (ltb b (branches w)) (is_silent w b) h)

  pub send_at : (ltb b (branches w) && is_send w b) ≡ true → (scheme w).branch b ≡ send (channel w b) (branch_name w b) (next w b)
  unfolding scheme branch_at
  send_at h = let k : is_send w b ≡ true = and_right (ltb b (branches w)) _ h in rw (and_left (ltb b (branches w)) (is_send w b) h, Inside.send-not-silent w b k, k)

  pub receive-at : (ltb b (branches w) && is_receive w b) ≡ true → (scheme w).branch b ≡ receive (channel w b) (branch_name w b) (next w b)
  unfolding scheme branch_at
  receive-at h =
      let k : is_receive w b ≡ true = and_right (ltb b (branches w)) _ h in
      rw (and_left (ltb b (branches w)) (is_receive w b) h, Inside.receive-not-silent w b k, Inside.receive-not-send w b k, k)

  pub silent-there : Kinds.is_silent ((scheme w).branch b) ≡ (ltb b (branches w) && is_silent w b)
  unfolding scheme
  silent-there = is-silent

  pub send-there : Kinds.is_send ((scheme w).branch b) ≡ (ltb b (branches w) && is_send w b)
  unfolding scheme
  send-there = is-send

  pub receive-there : Kinds.is_receive ((scheme w).branch b) ≡ (ltb b (branches w) && is_receive w b)
  unfolding scheme
  receive-there = is-receive
