-- What one firing gives, case by case, and what it gives to numbers fired in turn.
use mathlib.Core.Path.{◌≡◌, refl, sym, ap, ◌∙◌}
use mathlib.Core.Bool.{true, false}
use mathlib.Core.List.{List, [], ◌∷◌}
use Prim.Native.Nat.{ℕ, ◌+◌, ◌≤◌, ◌<◌}
use native.Mathlib.Nat.{zero-add}
use native.Mathlib.Omega.{arith}
use lib.Dec.{leb}
use lib.ListN.{length, get_or, drop, replicate, length-replicate}
use borrow.Author.Tests.{lt-ltb, le-ltb}
use Rattle.lists.specs.Lists.{same, every}
use Rattle.lists.proofs.Tests.{and_left, same-yes, same-no, same_true}
use Rattle.lists.proofs.Slices.{drop-step, drop-none}
use Rattle.net.proofs.Marks.{length-put}
use Rattle.net.specs.declared.Cause.{Cause}
use Rattle.net.specs.Answers.{cause_number}
use Rattle.net.specs.Inner.Arcs.{ArcsOf}
use Rattle.net.specs.Lent.{lent_cause}
use Rattle.net.proofs.Lent.{refused_first}
use Rattle.net.specs.Image.{place_count_of, transition_count, initial_places, is_header_right, inputs_at, outputs_at, record_right}
use Rattle.net.specs.Firing.{is_marking, is_enabled, has_contact, put, moved, initial_marking, Step, made, refused}
use Rattle.net.specs.Firing.{step_of, step, Outcome, outcome, after, in_turn, fire, replay}

-- ---- one step

module _ (m ins outs : List ℕ) where
  pub step-off : is_enabled m ins ≡ false → step_of m ins outs ≡ refused 15
  unfolding step_of
  step-off a = rw a

  pub step-contact : is_enabled m ins ≡ true → has_contact m ins outs ≡ true → step_of m ins outs ≡ refused 16
  unfolding step_of
  step-contact a b = rw (a, b)

  pub step-made : is_enabled m ins ≡ true → has_contact m ins outs ≡ false → step_of m ins outs ≡ made (moved m ins outs)
  unfolding step_of
  step-made a b = rw (a, b)

module _ (w m : List ℕ) (t : ℕ) where
  pub step-none : transition_count w ≤ t → step w m t ≡ refused 14
  unfolding step
  step-none h = rw (le-ltb t (transition_count w))

  module _ (h : t < transition_count w) where
    pub step-wrong : record_right w t ≡ false → step w m t ≡ refused 12
    unfolding step
    step-wrong a = rw (lt-ltb t (transition_count w), a)

    pub step-as : record_right w t ≡ true → (ins outs : List ℕ) → ins ≡ inputs_at w t → outs ≡ outputs_at w t → step w m t ≡ step_of m ins outs
    unfolding step
    step-as a ins outs p q = rw (lt-ltb t (transition_count w), a, p, q)

    -- by the arcs of a right record
    pub step-arcs : (ins outs : List ℕ) → ArcsOf w t ins outs → step w m t ≡ step_of m ins outs
    step-arcs ins outs a = step-as a.right ins outs a.inputs-are a.outputs-are

  -- ---- a number at the head of those fired in turn

  pub turn-refused : (ts : List ℕ) (c : ℕ) → step w m t ≡ refused c → in_turn w m (t ∷ ts) ≡ outcome c 0 m
  unfolding in_turn
  turn-refused ts c e = ap (λ (s : Step). elim s [ made next ↦ after 1 (in_turn w next ts) | refused cause ↦ outcome cause 0 m ]) e

  pub turn-made : (ts next : List ℕ) → step w m t ≡ made next → in_turn w m (t ∷ ts) ≡ after 1 (in_turn w next ts)
  unfolding in_turn
  turn-made ts next e = ap (λ (s : Step). elim s [ made next ↦ after 1 (in_turn w next ts) | refused cause ↦ outcome cause 0 m ]) e

  pub turn_last : (next : List ℕ) → step w m t ≡ made next → in_turn w m (t ∷ []) ≡ outcome 0 1 next
  unfolding in_turn
  turn_last next e = turn-made [] next e

  -- what the number alone gives, to the others behind it
  pub turn_on : (ts next : List ℕ) → outcome 0 1 next ≡ in_turn w m (t ∷ []) → in_turn w m (t ∷ ts) ≡ after 1 (in_turn w next ts)
  turn_on ts next e = go (step w m t) refl
    where
      go : (s : Step) → step w m t ≡ s → in_turn w m (t ∷ ts) ≡ after 1 (in_turn w next ts)
      go (made x) p =
          let q : next ≡ x = ap (λ (o : Outcome). o.marking) (e ∙ turn_last x p) in
          turn-made ts x p ∙ ap (λ (l : List ℕ). after 1 (in_turn w l ts)) (sym q)
      go (refused c) p =
          let q : ◌≡◌ {A = ℕ} 1 0 = ap (λ (o : Outcome). o.firings) (e ∙ turn-refused [] c p) in
          absurd (omega arith)

  pub turn-off : (ts next : List ℕ) (c : ℕ) → outcome c 0 next ≡ in_turn w m (t ∷ []) → in_turn w m (t ∷ ts) ≡ outcome c 0 next
  turn-off ts next c e = go (step w m t) refl
    where
      go : (s : Step) → step w m t ≡ s → in_turn w m (t ∷ ts) ≡ outcome c 0 next
      go (made x) p =
          let q : ◌≡◌ {A = ℕ} 0 1 = ap (λ (o : Outcome). o.firings) (e ∙ turn_last x p) in
          absurd (omega arith)
      go (refused d) p = turn-refused ts d p ∙ sym (e ∙ turn-refused [] d p)

-- ---- a single firing

pub marking-length : (n : ℕ) (m : List ℕ) → is_marking n m ≡ true → length m ≡ n
unfolding is_marking
marking-length n m h = same_true (length m) n (and_left (same (length m) n) (every (λ byte. leb byte 1) m) h)

module _ (w m : List ℕ) (t : ℕ) where
  pub fire_refused : (x : Cause) → cause_number x ≡ lent_cause w m → outcome (cause_number x) 0 m ≡ fire w m t
  unfolding fire
  fire_refused x e = refused_first w m x e (λ c. outcome c 0 m) (in_turn w m (t ∷ []))

  pub fire-as : is_header_right w ≡ true → is_marking (place_count_of w) m ≡ true → fire w m t ≡ in_turn w m (t ∷ [])
  unfolding fire
  fire-as a b = rw (a, b)

-- ---- a replay, i of its numbers made

pub initial-is : (w m x y : List ℕ) → length m ≡ place_count_of w → x ≡ replicate (length m) 0 → y ≡ put 1 x (initial_places w) → y ≡ initial_marking w
unfolding initial_marking
initial-is w m x y l p q = rw (q, p, l)

pub after_none : (o : Outcome) → o ≡ after 0 o
after_none o = rw zero-add

pub after_more : (i : ℕ) (o : Outcome) → after i (after 1 o) ≡ after (i + 1) o
after_more i o = let e : i + (1 + o.firings) ≡ i + 1 + o.firings = omega arith in ap (λ (n : ℕ). outcome o.cause n o.marking) e

pub after_last : (i c : ℕ) (m : List ℕ) → after i (outcome c 0 m) ≡ outcome c i m
after_last i c m = let e : i + 0 ≡ i = omega arith in ap (λ (n : ℕ). outcome c n m) e

pub initial-length : (w : List ℕ) → length (initial_marking w) ≡ place_count_of w
unfolding initial_marking
initial-length w = length-put 1 (replicate (place_count_of w) 0) (initial_places w) ∙ length-replicate (place_count_of w) 0

module _ (w m ts : List ℕ) where
  pub replay-no-image : is_header_right w ≡ false → replay w m ts ≡ outcome 11 0 m
  unfolding replay
  replay-no-image a = rw a

  module _ (a : is_header_right w ≡ true) where
    pub replay-no-length : (length m ≡ place_count_of w → ⊥) → replay w m ts ≡ outcome 13 0 m
    unfolding replay
    replay-no-length b = rw (a, same-no (length m) (place_count_of w))

    pub replay-as : length m ≡ place_count_of w → replay w m ts ≡ in_turn w (initial_marking w) ts
    unfolding replay
    replay-as b = rw (a, same-yes (length m) (place_count_of w))

  pub replay-end : (i : ℕ) → length ts ≤ i → i ≤ length ts → after i (in_turn w m (drop i ts)) ≡ outcome 0 (length ts) m
  unfolding in_turn
  replay-end i h k = let e : i ≡ length ts = omega arith in rw (drop-none ts i h) (after_last i 0 m ∙ ap (λ (n : ℕ). outcome 0 n m) e)

  module _ (i : ℕ) (h : i < length ts) (next : List ℕ) where
    pub replay-more : outcome 0 1 next ≡ in_turn w m (get_or ts i 0 ∷ []) → after i (in_turn w m (drop i ts)) ≡ after (i + 1) (in_turn w next (drop (i + 1) ts))
    replay-more e = rw (drop-step ts i h) (ap (after i) (turn_on w m (get_or ts i 0) (drop (i + 1) ts) next e) ∙ after_more i (in_turn w next (drop (i + 1) ts)))

    pub replay-halted : (c : ℕ) → outcome c 0 next ≡ in_turn w m (get_or ts i 0 ∷ []) → after i (in_turn w m (drop i ts)) ≡ outcome c i next
    replay-halted c e = rw (drop-step ts i h) (ap (after i) (turn-off w m (get_or ts i 0) (drop (i + 1) ts) next c e) ∙ after_last i c next)
