-- What a label names, and when a step is open, by the kinds of its nodes and branches.
use mathlib.Core.Path.{◌≡◌, refl, sym, ◌∙◌}
use mathlib.Core.Bool.{Bool, true, false, not, ◌&&◌, true≢false}
use mathlib.Core.List.{List}
use Prim.Native.Nat.{ℕ, ◌+◌, ◌≤◌, ◌<◌}
use native.Mathlib.Omega.{arith}
use lib.Dec.{ltb}
use borrow.Author.Tests.{lt-ltb}
use Rattle.std.specs.Bool.{then_some}
use Rattle.lists.specs.Lists.{pick, same, from, member}
use Rattle.lists.proofs.Tests.{and_left, and_right, not-true-false}
use Rattle.lists.proofs.Ranges.{member-from, from_member}
use Rattle.scheme.specs.Words
use Rattle.scheme.specs.Words.{nodes, definitions, formals, first_formal, formal_count, node_first, channel}
use Rattle.scheme.specs.Scheme.{Scheme, scheme, node_at, Node, stop, choice, new, call, Branch, absent, silent, send, receive}
use Rattle.scheme.specs.Kinds.{is_new, is_call_node, is_silent, is_send, is_receive}
use Rattle.table.specs.Causes.{cause}
use Rattle.table.proofs.Accepted.{accepted}
use Rattle.process.specs.States.{State, is_one_value}
use Rattle.process.specs.Steps.{Step, communication, no_step, is_step_open, can_communicate, is_standing_at}
use Rattle.process.specs.Labels.{new_name, named_new, named_silent, named_call, is_partner}
use Rattle.process.specs.Labels.{bookkeeping, copy, release, missing, copies, releases, named_copy, named_release}
use Rattle.process.specs.Inner.Codes.{if_open, meant, opened, Labelled}
use Rattle.process.specs.declared.labels.Step as code
use Rattle.process.proofs.Decoding.{new-there, send-there, receive-there, choice-at, new-at, call_at, send_at, receive-at}

-- ---- the label of a step

pub labelled-as : (S : Scheme) (y z : code.Step) → y ≡ z → Labelled S (meant y) → Labelled S (meant z)
labelled-as S y z e h = rw (← e) h

pub new-made : (w : List ℕ) (n : ℕ) → is_new ((scheme w).node n) ≡ true → new_name ((scheme w).node n) ≡ node_first w n
new-made w n h = rw (new-at w n (sym (new-there w n) ∙ h))

-- ---- copies and releases

module _ (w : List ℕ) (n x : ℕ) where
  pub no_copy : is_call_node ((scheme w).node n) ≡ false → missing ≡ named_copy (scheme w) n x
  no_copy h = rw (go ((scheme w).node n) h)
    where
      go : (ν : Node) → is_call_node ν ≡ false → copies (scheme w) x ν ≡ false
      go stop h = refl
      go (choice f c) h = refl
      go (new r l) h = refl
      go (call d) h = absurd (true≢false h)

  module _ (ok : cause w ≡ 0) (h : (ltb n (nodes w) && Words.is_call_node w n) ≡ true) (d a : ℕ) (ed : d ≡ node_first w n) (ea : a ≡ first_formal w d) where
    copies-formals : copies (scheme w) x ((scheme w).node n) ≡ member x (from a (formal_count w d))
    unfolding scheme formals
    copies-formals =
        let i : node_first w n < definitions w = ((accepted w ok).call-inside n (node_first w n) (call_at w n h)).1 in
        rw (call_at w n h, lt-ltb (node_first w n) (definitions w) i, ea, ed)

    no-formal : ((a ≤ x) × (x < a + formal_count w d) → ⊥) → missing ≡ named_copy (scheme w) n x
    no-formal f = rw (copies-formals, not-true-false (member x (from a (formal_count w d))) (λ m. f (from_member x a (formal_count w d) m)))

    pub copy-below : x < a → missing ≡ named_copy (scheme w) n x
    copy-below u = no-formal (λ f. omega arith)

    pub copy-above : (m : ℕ) → m ≡ formal_count w d → a + m ≤ x → missing ≡ named_copy (scheme w) n x
    copy-above m em u = no-formal (λ f. omega arith)

    pub copy-inside : (m : ℕ) → m ≡ formal_count w d → a ≤ x → x < a + m → bookkeeping (copy n x) ≡ named_copy (scheme w) n x
    copy-inside m em u o = rw (copies-formals, member-from x a (formal_count w d) u (omega arith))

  pub no-release-choice : (ltb n (nodes w) && Words.is_choice w n) ≡ true → missing ≡ named_release (scheme w) n x
  no-release-choice h = rw (choice-at w n h)

  pub no-release-new : (ltb n (nodes w) && Words.is_new w n) ≡ true → missing ≡ named_release (scheme w) n x
  no-release-new h = rw (new-at w n h)

  -- any other node releases what it holds
  releases-held : (ltb n (nodes w) && Words.is_choice w n) ≡ false → (ltb n (nodes w) && Words.is_new w n) ≡ false → (held : List ℕ)
      → releases (scheme w) held x ((scheme w).node n) ≡ member x held
  unfolding scheme node_at
  releases-held a b held = go (ltb n (nodes w)) refl
    where
      ends : (c : Bool) → releases (scheme w) held x (pick c (call (node_first w n)) stop) ≡ member x held
      ends true = refl
      ends false = refl

      go : (d : Bool) → ltb n (nodes w) ≡ d → releases (scheme w) held x (node_at w n) ≡ member x held
      go false l = rw l
      go true l = rw (l, rw l at a, rw l at b) (ends (Words.is_call_node w n))

  pub release-held : (ltb n (nodes w) && Words.is_choice w n) ≡ false → (ltb n (nodes w) && Words.is_new w n) ≡ false
      → pick (member x ((scheme w).held n)) (bookkeeping (release n x)) missing ≡ named_release (scheme w) n x
  release-held a b = rw (releases-held a b ((scheme w).held n))

-- ---- steps

module _ (S : Scheme) (n x : ℕ) where
  pub no-new : (ν : Node) → is_new ν ≡ false → no_step ≡ named_new S n x ν
  no-new stop h = refl
  no-new (choice f c) h = refl
  no-new (new r l) h = absurd (true≢false h)
  no-new (call d) h = refl

  pub no_call : (ν : Node) → is_call_node ν ≡ false → no_step ≡ named_call S n x ν
  no_call stop h = refl
  no_call (choice f c) h = refl
  no_call (new r l) h = refl
  no_call (call d) h = absurd (true≢false h)

  pub no-silent : (β : Branch) → is_silent β ≡ false → no_step ≡ named_silent S n x β
  no-silent absent h = refl
  no-silent (silent l) h = absurd (true≢false h)
  no-silent (send a z l) h = refl
  no-silent (receive a y l) h = refl

module _ (S : Scheme) (s : State) (b c : ℕ) where
  pub no-send : (β γ : Branch) → is_send β ≡ false → false ≡ can_communicate S s b β c γ
  no-send absent γ h = refl
  no-send (silent l) γ h = refl
  no-send (send a z l) γ h = absurd (true≢false h)
  no-send (receive a y l) γ h = refl

  pub no-receive : (β γ : Branch) → is_receive γ ≡ false → false ≡ can_communicate S s b β c γ
  no-receive absent γ h = refl
  no-receive (silent l) γ h = refl
  no-receive (send a z l) absent h = refl
  no-receive (send a z l) (silent m) h = refl
  no-receive (send a z l) (send e y m) h = refl
  no-receive (send a z l) (receive e y m) h = absurd (true≢false h)
  no-receive (receive a y l) γ h = refl

-- a step that a label names is taken if it is open
module _ (S : Scheme) (s : State) (x : Step) where
  pub open_told : (b : Bool) (y : code.Step) → b ≡ is_step_open S s (meant y) → meant y ≡ x → opened (then_some b y) ≡ if_open S s x
  open_told true y e h = rw (← h, ← e)
  open_told false y e h = rw (← h, ← e)

  pub open-nothing : no_step ≡ x → no_step ≡ if_open S s x
  unfolding is_step_open
  open-nothing e = rw (← e)

-- a send and a receive of different threads
module _ (S : Scheme) (s : State) (b c : ℕ) where
  pub no-partners : (is_send (S.branch b) && is_partner S b c) ≡ false → false ≡ is_step_open S s (communication b c)
  unfolding is_step_open
  no-partners h = go (S.branch b) (S.branch c) h
    where
      go : (β γ : Branch) → (is_send β && (is_receive γ && not (same (S.thread (S.home b)) (S.thread (S.home c))))) ≡ false → false ≡ can_communicate S s b β c γ
      go absent γ k = refl
      go (silent l) γ k = refl
      go (send a z l) absent k = refl
      go (send a z l) (silent m) k = refl
      go (send a z l) (send e y m) k = refl
      go (send a z l) (receive e y m) k = rw k
      go (receive a y l) γ k = refl

pub partners-open : (w : List ℕ) (s : State) (b c : ℕ) → (is_send ((scheme w).branch b) && is_partner (scheme w) b c) ≡ true
    → is_step_open (scheme w) s (communication b c)
    ≡ (is_standing_at (scheme w) s ((scheme w).home b) && (is_standing_at (scheme w) s ((scheme w).home c) && is_one_value (s.value (channel w b)) (s.value (channel w c))))
unfolding is_step_open
partners-open w s b c h =
    let S = scheme w in
    let p = is_partner S b c in
    let i : is_receive (S.branch c) ≡ true = and_left _ _ (and_right (is_send (S.branch b)) p h) in
    let k : not (same (S.thread (S.home b)) (S.thread (S.home c))) ≡ true = and_right (is_receive (S.branch c)) _ (and_right (is_send (S.branch b)) p h) in
    rw (send_at w b (sym (send-there w b) ∙ and_left (is_send (S.branch b)) p h), receive-at w c (sym (receive-there w c) ∙ i), k)

pub stand-there : (S : Scheme) (s : State) (n k : ℕ) (r : Bool) → n ≡ k → r ≡ is_standing_at S s n → r ≡ is_standing_at S s k
stand-there S s n k r e h = h ∙ rw e
