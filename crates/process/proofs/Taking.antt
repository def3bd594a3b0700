-- The state after an open step, name by name and thread by thread.
use mathlib.Core.Path.{◌≡◌, refl, sym, ap, ◌∙◌}
use mathlib.Core.Bool.{Bool, true, false, ◌&&◌, false≢true}
use mathlib.Core.List.{List, map}
use mathlib.Core.Logic.{◌⊎◌, inl, inr}
use mathlib.Core.Option.{Option, none, some}
use Prim.Native.Nat.{ℕ, zero, suc, ◌+◌, ◌-◌, ◌≤◌, ◌<◌}
use native.Mathlib.Decide.{ℕ_discrete}
use native.Mathlib.Omega.{arith}
use lib.Dec.{ltb}
use borrow.Author.Tests.{lt-ltb}
use Rattle.lists.specs.Lists.{pick, same, word, from}
use Rattle.lists.proofs.Tests.{same-yes, same-no, same_self, and_left, true-or-false}
use Rattle.scheme.specs.Words.{publics, bounds, nodes, definitions, formals, root, first_formal, formal_count, node_first, node_second}
use Rattle.scheme.specs.Words.{branch_name, channel, next, argument, arguments_of, is_call_node, Number}
use Rattle.scheme.specs.Scheme.{scheme, new, call, silent, send, receive, arguments_from}
use Rattle.scheme.specs.Kinds
use Rattle.table.specs.Causes.{cause}
use Rattle.table.proofs.Accepted.{accepted}
use Rattle.process.specs.States.{put, value_of}
use Rattle.process.specs.Steps.{new_step, silent_step, communication, step_call, take, is_step_open, passed}
use Rattle.process.specs.StateWords.{state_of}
use Rattle.process.specs.Inner.Values.{value_at, Valued}
use Rattle.process.specs.Inner.Codes.{Going}
use Rattle.process.proofs.Decoding.{new-there, call-there, silent-there, send-there, receive-there, new-at, call_at, silent-at, send_at, receive-at}
use Rattle.process.proofs.Labelling.{no-send, no-receive}

-- ---- what an open step stands at

module _ (w ws : List ℕ) where
  pub new-open : (n : ℕ) → Going w ws (new_step n) → (scheme w).node n ≡ new (node_first w n) (node_second w n)
  unfolding is_step_open
  new-open n G = new-at w n (sym (new-there w n) ∙ and_left (Kinds.is_new ((scheme w).node n)) _ G)

  pub call-open : (n : ℕ) → Going w ws (step_call n) → (scheme w).node n ≡ call (node_first w n)
  unfolding is_step_open
  call-open n G = call_at w n (sym (call-there w n) ∙ and_left (Kinds.is_call_node ((scheme w).node n)) _ G)

  pub silent-open : (b : ℕ) → Going w ws (silent_step b) → (scheme w).branch b ≡ silent (next w b)
  unfolding is_step_open
  silent-open b G = silent-at w b (sym (silent-there w b) ∙ and_left (Kinds.is_silent ((scheme w).branch b)) _ G)

  pub send-open : (b c : ℕ) → Going w ws (communication b c) → (scheme w).branch b ≡ send (channel w b) (branch_name w b) (next w b)
  unfolding is_step_open
  send-open b c G = send_at w b (sym (send-there w b) ∙ go (true-or-false (Kinds.is_send ((scheme w).branch b))))
    where
      go : (Kinds.is_send ((scheme w).branch b) ≡ true) ⊎ (Kinds.is_send ((scheme w).branch b) ≡ false) → Kinds.is_send ((scheme w).branch b) ≡ true
      go (inl h) = h
      go (inr h) = absurd (false≢true (no-send (scheme w) (state_of (scheme w) ws) b c ((scheme w).branch b) ((scheme w).branch c) h ∙ G))

  pub receive-open : (b c : ℕ) → Going w ws (communication b c) → (scheme w).branch c ≡ receive (channel w c) (branch_name w c) (next w c)
  unfolding is_step_open
  receive-open b c G = receive-at w c (sym (receive-there w c) ∙ go (true-or-false (Kinds.is_receive ((scheme w).branch c))))
    where
      go : (Kinds.is_receive ((scheme w).branch c) ≡ true) ⊎ (Kinds.is_receive ((scheme w).branch c) ≡ false) → Kinds.is_receive ((scheme w).branch c) ≡ true
      go (inl h) = h
      go (inr h) = absurd (false≢true (no-receive (scheme w) (state_of (scheme w) ws) b c ((scheme w).branch b) ((scheme w).branch c) h ∙ G))

-- ---- values

nothing-there : value_at 65535 ≡ none
nothing-there = rw (same_self 65535)

pub ended : {o : Option ℕ} → o ≡ none → Valued o 65535
ended e = record { is = e ∙ sym nothing-there; small = omega arith }

pub kept : {o q : Option ℕ} {r : ℕ} → o ≡ q → Valued q r → Valued o r
kept e v = record { is = e ∙ v.is; small = v.small }

pub few-publics : (w : List ℕ) → cause w ≡ 0 → publics w ≤ 32
unfolding scheme
few-publics w h = (accepted w h).few-publics

pub few-bounds : (w : List ℕ) → cause w ≡ 0 → bounds w ≤ 32
unfolding scheme
few-bounds w h = (accepted w h).few-bounds

few-names : (w : List ℕ) → cause w ≡ 0 → publics w + bounds w ≤ 64
unfolding scheme
few-names w h = omega (arith, (accepted w h).few-publics, (accepted w h).few-bounds)

counter-is : (w ws : List ℕ) → (state_of (scheme w) ws).counter ≡ publics w + bounds w
unfolding state_of scheme
counter-is w ws = refl

module _ (w ws : List ℕ) (x : ℕ) where
  -- the name ends as thread t arrives at node l
  abbrev pub is_end_at : ℕ → ℕ → Bool
  is_end_at t l = Kinds.is_stop_node ((scheme w).node l) && same ((scheme w).thread_of_name x) t

  module _ (n t l : ℕ) (G : Going w ws (new_step n)) (et : t ≡ (scheme w).thread n) (el : l ≡ node_second w n) where
    pub new-ends : is_end_at t l ≡ true → Valued ((take (scheme w) (new_step n) (state_of (scheme w) ws)).value x) 65535
    unfolding take
    new-ends h = ended (rw (new-open w ws n G, ← et, ← el, h))

    pub new-takes : cause w ≡ 0 → (r v : ℕ) → is_end_at t l ≡ false → r ≡ node_first w n → x ≡ r → v ≡ publics w + bounds w
        → Valued ((take (scheme w) (new_step n) (state_of (scheme w) ws)).value x) v
    unfolding take put
    new-takes ok r v h er e ev =
        let small : publics w + bounds w ≤ 64 = few-names w ok in
        record {
          is = rw (
            new-open w ws n G,
            ← et,
            ← el,
            h,
            same-yes x (node_first w n) (e ∙ er),
            counter-is w ws,
            ev,
            same-no (publics w + bounds w) 65535 (λ q. omega arith),
          );
          small = omega arith;
        }

    pub new-keeps : (r v : ℕ) → is_end_at t l ≡ false → r ≡ node_first w n → (x ≡ r → ⊥) → Valued ((state_of (scheme w) ws).value x) v
        → Valued ((take (scheme w) (new_step n) (state_of (scheme w) ws)).value x) v
    unfolding take put
    new-keeps r v h er d k = kept (rw (new-open w ws n G, ← et, ← el, h, same-no x (node_first w n) (λ e. d (e ∙ sym er)))) k

  module _ (b t l : ℕ) (G : Going w ws (silent_step b)) (et : t ≡ (scheme w).thread ((scheme w).home b)) (el : l ≡ next w b) where
    pub silent-ends : is_end_at t l ≡ true → Valued ((take (scheme w) (silent_step b) (state_of (scheme w) ws)).value x) 65535
    unfolding take
    silent-ends h = ended (rw (silent-open w ws b G, ← et, ← el, h))

    pub silent-keeps : (v : ℕ) → is_end_at t l ≡ false → Valued ((state_of (scheme w) ws).value x) v
        → Valued ((take (scheme w) (silent_step b) (state_of (scheme w) ws)).value x) v
    unfolding take
    silent-keeps v h k = kept (rw (silent-open w ws b G, ← et, ← el, h)) k

  module _ (b c t l u m : ℕ) (G : Going w ws (communication b c)) (et : t ≡ (scheme w).thread ((scheme w).home b)) (el : l ≡ next w b)
      (eu : u ≡ (scheme w).thread ((scheme w).home c)) (em : m ≡ next w c) where
    met-is : ((take (scheme w) (communication b c) (state_of (scheme w) ws)).value x) ≡ pick (is_end_at t l) none (pick (is_end_at u m) none (pick (same x (branch_name w c)) ((state_of (scheme w) ws).value (branch_name w b)) ((state_of (scheme w) ws).value x)))
    unfolding take
    met-is = rw (send-open w ws b c G, receive-open w ws b c G, ← et, ← el, ← eu, ← em) (go (is_end_at t l) (is_end_at u m) (same x (branch_name w c)))
      where
        go : (p q r : Bool)
            → value_of (state_of (scheme w) ws).value (pick p none (pick q none (pick r (some (branch_name w b)) (some x))))
            ≡ pick p none (pick q none (pick r ((state_of (scheme w) ws).value (branch_name w b)) ((state_of (scheme w) ws).value x)))
        go true q r = refl
        go false true r = refl
        go false false true = refl
        go false false false = refl

    pub met-sender-ends : is_end_at t l ≡ true → Valued ((take (scheme w) (communication b c) (state_of (scheme w) ws)).value x) 65535
    met-sender-ends h = ended (met-is ∙ rw h)

    pub met-receiver-ends : is_end_at t l ≡ false → is_end_at u m ≡ true → Valued ((take (scheme w) (communication b c) (state_of (scheme w) ws)).value x) 65535
    met-receiver-ends h i = ended (met-is ∙ rw (h, i))

    pub met-takes : (y z v : ℕ) → is_end_at t l ≡ false → is_end_at u m ≡ false → y ≡ branch_name w c → x ≡ y → z ≡ branch_name w b
        → Valued ((state_of (scheme w) ws).value z) v → Valued ((take (scheme w) (communication b c) (state_of (scheme w) ws)).value x) v
    met-takes y z v h i ey e ez k = kept (met-is ∙ rw (h, i, same-yes x (branch_name w c) (e ∙ ey), ← ez)) k

    pub met-keeps : (y v : ℕ) → is_end_at t l ≡ false → is_end_at u m ≡ false → y ≡ branch_name w c → (x ≡ y → ⊥)
        → Valued ((state_of (scheme w) ws).value x) v → Valued ((take (scheme w) (communication b c) (state_of (scheme w) ws)).value x) v
    met-keeps y v h i ey d k = kept (met-is ∙ rw (h, i, same-no x (branch_name w c) (λ e. d (e ∙ sym ey)))) k

-- ---- arguments of a call

module _ (f : ℕ → ℕ) (x : ℕ) where
  pub passed-below : (n a b : ℕ) → x < a → passed (from a n) (map f (from b n)) x ≡ none
  unfolding passed from
  passed-below zero a b h = refl
  passed-below (suc n) a b h = rw (same-no x a (λ e. omega arith), passed) (passed-below n (a + 1) (b + 1) (omega arith))

  pub passed-above : (n a b : ℕ) → a + n ≤ x → passed (from a n) (map f (from b n)) x ≡ none
  unfolding passed from
  passed-above zero a b h = refl
  passed-above (suc n) a b h = rw (same-no x a (λ e. omega arith), passed) (passed-above n (a + 1) (b + 1) (omega arith))

  pub passed-inside : (n a b : ℕ) → a ≤ x → x < a + n → passed (from a n) (map f (from b n)) x ≡ some (f (b + (x - a)))
  unfolding passed from
  passed-inside zero a b h k = absurd (omega arith)
  passed-inside (suc n) a b h k = go (ℕ_discrete x a) (λ l. passed-inside n (a + 1) (b + 1) l (omega arith))
    where
      go : Dec (x ≡ a) → (a + 1 ≤ x → passed (from (a + 1) n) (map f (from (b + 1) n)) x ≡ some (f (b + 1 + (x - (a + 1)))))
          → passed (from a (suc n)) (map f (from b (suc n))) x ≡ some (f (b + (x - a)))
      go (yes e) ih = let z : b ≡ b + (x - a) = omega arith in rw (same-yes x a e, passed) (ap (λ (k : ℕ). some (f k)) z)
      go (no d) ih = let z : b + 1 + (x - (a + 1)) ≡ b + (x - a) = omega arith in rw (same-no x a d, passed) (ih (omega arith) ∙ ap (λ (k : ℕ). some (f k)) z)

root_is : (w : List ℕ) (d : ℕ) → (scheme w).root d ≡ root w d
unfolding scheme
root_is w d = refl

module _ (w ws : List ℕ) (x n : ℕ) (ok : cause w ≡ 0) (G : Going w ws (step_call n)) where
  at_call : (ltb n (nodes w) && is_call_node w n) ≡ true
  unfolding is_step_open
  at_call = sym (call-there w n) ∙ and_left (Kinds.is_call_node ((scheme w).node n)) _ G

  passes : passed ((scheme w).formals (node_first w n)) ((scheme w).arguments n) x ≡ passed (formals w (node_first w n)) (arguments_of w n) x
  unfolding scheme arguments_from
  passes =
      let d : node_first w n < definitions w = ((accepted w ok).call-inside n (node_first w n) (call-open w ws n G)).1 in
      rw (lt-ltb (node_first w n) (definitions w) d, at_call)

  pub call-keeps : (t v k : ℕ) → t ≡ (scheme w).thread n → k ≡ (scheme w).thread_of_name x → (k ≡ t → ⊥) → Valued ((state_of (scheme w) ws).value x) v → Valued ((take (scheme w) (step_call n) (state_of (scheme w) ws)).value x) v
  unfolding take
  call-keeps t v k et ek d h = kept (rw (call-open w ws n G, ← et, ← ek, same-no k t d)) h

  module _ (t k d : ℕ) (et : t ≡ (scheme w).thread n) (ek : k ≡ (scheme w).thread_of_name x) (e : k ≡ t) (ed : d ≡ node_first w n) where
    pub call_ends : (l : ℕ) → l ≡ root w d → Kinds.is_stop_node ((scheme w).node l) ≡ true → Valued ((take (scheme w) (step_call n) (state_of (scheme w) ws)).value x) 65535
    unfolding take scheme
    call_ends l el h = ended (rw (call-open w ws n G, ← et, ← ek, same-yes k t e, ← ed, ← el, h))

    module _ (l : ℕ) (el : l ≡ root w d) (h : Kinds.is_stop_node ((scheme w).node l) ≡ false) where
      called_is : ((take (scheme w) (step_call n) (state_of (scheme w) ws)).value x) ≡ value_of (state_of (scheme w) ws).value (passed (formals w (node_first w n)) (arguments_of w n) x)
      unfolding take
      called_is = rw (call-open w ws n G, ← et, ← ek, same-yes k t e, ← ed, root_is w d, ← el, h, ed, passes)

      pub call_below : (a : ℕ) → a ≡ first_formal w d → x < a → Valued ((take (scheme w) (step_call n) (state_of (scheme w) ws)).value x) 65535
      unfolding formals arguments_of
      call_below a ea u =
          ended (called_is ∙ rw (passed-below (argument w) x (formal_count w (node_first w n)) (first_formal w (node_first w n)) (node_second w n) (rw (← ed, ← ea) u)))

      pub call-above : (a m : ℕ) → a ≡ first_formal w d → m ≡ formal_count w d → a + m ≤ x → Valued ((take (scheme w) (step_call n) (state_of (scheme w) ws)).value x) 65535
      unfolding formals arguments_of
      call-above a m ea em u =
          ended (called_is ∙ rw (passed-above (argument w) x (formal_count w (node_first w n)) (first_formal w (node_first w n)) (node_second w n) (rw (← ed, ← ea, ← em) u)))

      pub call_passes : (a m s z v : ℕ) → a ≡ first_formal w d → m ≡ formal_count w d → a ≤ x → x < a + m → s ≡ node_second w n → z ≡ argument w (s + (x - a))
          → Valued ((state_of (scheme w) ws).value z) v → Valued ((take (scheme w) (step_call n) (state_of (scheme w) ws)).value x) v
      unfolding formals arguments_of
      call_passes a m s z v ea em u o es ez k =
          kept (called_is ∙ rw (passed-inside (argument w) x (formal_count w (node_first w n)) (first_formal w (node_first w n)) (node_second w n) (rw (← ed, ← ea) u) (rw (← ed, ← ea, ← em) o), ← es, ← ed, ← ea, ← ez)) k

-- ---- nodes

module _ (w ws : List ℕ) (θ r : ℕ) where
  node-is : (state_of (scheme w) ws).node θ ≡ word ws θ
  unfolding state_of
  node-is = refl

  module _ (n t l v : ℕ) (et : t ≡ (scheme w).thread n) (ev : v ≡ word ws θ) where
    pub new-goes : Going w ws (new_step n) → l ≡ node_second w n → Number (pick (same θ t) l v) r
        → Number ((take (scheme w) (new_step n) (state_of (scheme w) ws)).node θ) r
    unfolding take put
    new-goes G el k = record { is = k.is ∙ rw (new-open w ws n G, ← et, ← el, node-is, ← ev); small = k.small }

    pub call-goes : (d : ℕ) → Going w ws (step_call n) → d ≡ node_first w n → l ≡ root w d → Number (pick (same θ t) l v) r
        → Number ((take (scheme w) (step_call n) (state_of (scheme w) ws)).node θ) r
    unfolding take put
    call-goes d G ed el k = record { is = k.is ∙ rw (call-open w ws n G, ← et, ← ed, root_is w d, ← el, node-is, ← ev); small = k.small }

  pub silent-goes : (b t l v : ℕ) → t ≡ (scheme w).thread ((scheme w).home b) → v ≡ word ws θ → Going w ws (silent_step b) → l ≡ next w b
      → Number (pick (same θ t) l v) r → Number ((take (scheme w) (silent_step b) (state_of (scheme w) ws)).node θ) r
  unfolding take put
  silent-goes b t l v et ev G el k = record { is = k.is ∙ rw (silent-open w ws b G, ← et, ← el, node-is, ← ev); small = k.small }

  pub meeting-goes : (b c t l u m v s : ℕ) → t ≡ (scheme w).thread ((scheme w).home b) → u ≡ (scheme w).thread ((scheme w).home c) → v ≡ word ws θ
      → Going w ws (communication b c) → l ≡ next w b → m ≡ next w c → Number (pick (same θ t) l v) s → Number (pick (same θ u) m s) r
      → Number ((take (scheme w) (communication b c) (state_of (scheme w) ws)).node θ) r
  unfolding take put
  meeting-goes b c t l u m v s et eu ev G el em j k = record {
    is = k.is ∙ rw (j.is, send-open w ws b c G, receive-open w ws b c G, ← et, ← eu, ← el, ← em, node-is, ← ev);
    small = k.small;
  }
