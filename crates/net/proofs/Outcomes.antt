-- What holds of every outcome: firings leave markings markings, a count tells which numbers were made, and a run is its history fired in turn.
use mathlib.Core.Path.{◌≡◌, refl, sym, ap, subst, ◌∙◌}
use mathlib.Core.Bool.{Bool, true, false, not}
use mathlib.Core.List.{List, [], ◌∷◌}
use Prim.Native.Nat.{ℕ, zero, suc, ◌≤◌, ◌<◌}
use native.Mathlib.Numerals.{one-add}
use native.Mathlib.Omega.{arith}
use lib.Dec.{leb, ltb}
use lib.ListN.{length, take, set, replicate, length-replicate}
use Rattle.lists.specs.Lists.{same, every}
use Rattle.lists.proofs.Tests.{and_intro, and_left, and_right, same-yes, went-second}
use borrow.Author.Tests.{ltb-true, not-false}
use Rattle.net.specs.Image.{place_count_of, transition_count, initial_places, inputs_at, outputs_at, record_right}
use Rattle.net.specs.Firing.{is_marking, is_enabled, has_contact, put, moved, initial_marking, Step, made}
use Rattle.net.specs.Firing.{refused, step_of, step, Outcome, outcome, after, in_turn}
use Rattle.net.specs.Firing.{Search, lowest, malformed, nothing}
use Rattle.net.specs.Firing.{nothing_enabled, stopped, RunOutcome, ended, preceded, run_by}
use Rattle.net.proofs.Marks.{length-put}
use Rattle.net.proofs.Steps.{marking-length, turn-refused, turn-made}

-- ---- markings stay markings

bytes : List ℕ → Bool
bytes m = every (λ byte. leb byte 1) m

bytes-set : (m : List ℕ) (i v : ℕ) → leb v 1 ≡ true → bytes m ≡ true → bytes (set m i v) ≡ true
unfolding every bytes
bytes-set [] i v p h = refl
bytes-set (x ∷ xs) zero v p h = and_intro (leb v 1) (bytes xs) p (and_right (leb x 1) (bytes xs) h)
bytes-set (x ∷ xs) (suc i) v p h = and_intro (leb x 1) (bytes (set xs i v)) (and_left (leb x 1) (bytes xs) h)
    (bytes-set xs i v p (and_right (leb x 1) (bytes xs) h))

bytes-put : (v : ℕ) (m ps : List ℕ) → leb v 1 ≡ true → bytes m ≡ true → bytes (put v m ps) ≡ true
unfolding put
bytes-put v m [] p h = h
bytes-put v m (x ∷ xs) p h = bytes-put v (set m x v) xs p (bytes-set m x v p h)

bytes-none : (n : ℕ) → bytes (replicate n 0) ≡ true
unfolding every bytes
bytes-none zero = refl
bytes-none (suc n) = bytes-none n

pub is-marking : (n : ℕ) (m : List ℕ) → length m ≡ n → every (λ byte. leb byte 1) m ≡ true → is_marking n m ≡ true
unfolding is_marking
is-marking n m p q = and_intro (same (length m) n) (every (λ byte. leb byte 1) m) (same-yes (length m) n p) q

marking-bytes : (n : ℕ) (m : List ℕ) → is_marking n m ≡ true → bytes m ≡ true
unfolding is_marking bytes
marking-bytes n m h = and_right (same (length m) n) (every (λ byte. leb byte 1) m) h

pub put_keeps : (n v : ℕ) (m ps : List ℕ) → leb v 1 ≡ true → is_marking n m ≡ true → is_marking n (put v m ps) ≡ true
unfolding bytes
put_keeps n v m ps p h = is-marking n (put v m ps) (length-put v m ps ∙ marking-length n m h) (bytes-put v m ps p (marking-bytes n m h))

pub moved_keeps : (n : ℕ) (m ins outs : List ℕ) → is_marking n m ≡ true → is_marking n (moved m ins outs) ≡ true
moved_keeps n m ins outs h = put_keeps n 1 (put 0 m ins) outs refl (put_keeps n 0 m ins refl h)

pub initial-keeps : (w : List ℕ) → is_marking (place_count_of w) (initial_marking w) ≡ true
unfolding initial_marking bytes
initial-keeps w =
    put_keeps (place_count_of w) 1 (replicate (place_count_of w) 0) (initial_places w) refl
    (is-marking (place_count_of w) (replicate (place_count_of w) 0) (length-replicate (place_count_of w) 0) (bytes-none (place_count_of w)))

-- ---- one step that is made

-- what a firing that was made tells
pub record Makes (w m : List ℕ) (t : ℕ) (next : List ℕ) : Type 0 where
  pub below : t < transition_count w
  pub right : record_right w t ≡ true
  pub enabled : is_enabled m (inputs_at w t) ≡ true
  pub free : has_contact m (inputs_at w t) (outputs_at w t) ≡ false
  pub next-is : next ≡ moved m (inputs_at w t) (outputs_at w t)

apart : (c : ℕ) (next : List ℕ) → refused c ≡ made next → ⊥
apart c next p = let z : ◌≡◌ {A = ℕ} 0 1 = cc in omega arith

same_next : (x y : List ℕ) → made x ≡ made y → y ≡ x
same_next x y p = cc

pub makes : (w m : List ℕ) (t : ℕ) (next : List ℕ) → step w m t ≡ made next → Makes w m t next
unfolding step step_of
makes w m t next h =
    let a = went-second {b = not (ltb t (transition_count w))} h (apart 14 next) in
    let b = went-second {b = not (record_right w t)} a.1 (apart 12 next) in
    let c = went-second {b = not (is_enabled m (inputs_at w t))} b.1 (apart 15 next) in
    let d = went-second {b = has_contact m (inputs_at w t) (outputs_at w t)} c.1 (apart 16 next) in
    record {
      below = ltb-true t (transition_count w) (not-false (ltb t (transition_count w)) a.0);
      right = not-false (record_right w t) b.0;
      enabled = not-false (is_enabled m (inputs_at w t)) c.0;
      free = d.0;
      next-is = same_next (moved m (inputs_at w t) (outputs_at w t)) next d.1;
    }

pub step_keeps : (n : ℕ) (w m : List ℕ) (t : ℕ) (next : List ℕ) → step w m t ≡ made next → is_marking n m ≡ true → is_marking n next ≡ true
step_keeps n w m t next e h = ap (is_marking n) (makes w m t next e).next-is ∙ moved_keeps n m (inputs_at w t) (outputs_at w t) h

-- ---- numbers fired in turn

-- "as many first ones as it answers" (document 01, Net image and firing): fired alone, those are all made and leave the same marking
pub turn-first : (w m ts : List ℕ) → in_turn w m (take (in_turn w m ts).firings ts) ≡ outcome 0 (in_turn w m ts).firings (in_turn w m ts).marking
unfolding in_turn
turn-first w m [] = refl
turn-first w m (t ∷ ts) = go (step w m t) refl (λ x. turn-first w x ts)
  where
    go : (s : Step) → step w m t ≡ s
        → ((x : List ℕ) → in_turn w x (take (in_turn w x ts).firings ts) ≡ outcome 0 (in_turn w x ts).firings (in_turn w x ts).marking)
        → in_turn w m (take (in_turn w m (t ∷ ts)).firings (t ∷ ts)) ≡ outcome 0 (in_turn w m (t ∷ ts)).firings (in_turn w m (t ∷ ts)).marking
    go (made x) p rest =
        let o = in_turn w x ts in
        subst (λ (q : Outcome). in_turn w m (take q.firings (t ∷ ts)) ≡ outcome 0 q.firings q.marking) (sym (turn-made w m t ts x p))
        (ap (λ (n : ℕ). in_turn w m (take n (t ∷ ts))) (one-add o.firings) ∙ turn-made w m t (take o.firings ts) x p ∙ ap (after 1) (rest x))
    go (refused c) p rest =
        subst (λ (q : Outcome). in_turn w m (take q.firings (t ∷ ts)) ≡ outcome 0 q.firings q.marking) (sym (turn-refused w m t ts c p)) refl

pub turn-count : (w m ts : List ℕ) → (in_turn w m ts).firings ≤ length ts
unfolding in_turn
turn-count w m [] = omega arith
turn-count w m (t ∷ ts) = go (step w m t) refl (λ x. turn-count w x ts)
  where
    go : (s : Step) → step w m t ≡ s → ((x : List ℕ) → (in_turn w x ts).firings ≤ length ts) → (in_turn w m (t ∷ ts)).firings ≤ suc (length ts)
    go (made x) p rest = omega (arith, ap (λ (o : Outcome). o.firings) (turn-made w m t ts x p), rest x)
    go (refused c) p rest = omega (arith, ap (λ (o : Outcome). o.firings) (turn-refused w m t ts c p))

pub turn-keeps : (n : ℕ) (w m ts : List ℕ) → is_marking n m ≡ true → is_marking n (in_turn w m ts).marking ≡ true
unfolding in_turn
turn-keeps n w m [] h = h
turn-keeps n w m (t ∷ ts) h = go (step w m t) refl (λ x. turn-keeps n w x ts)
  where
    go : (s : Step) → step w m t ≡ s → ((x : List ℕ) → is_marking n x ≡ true → is_marking n (in_turn w x ts).marking ≡ true)
        → is_marking n (in_turn w m (t ∷ ts)).marking ≡ true
    go (made x) p rest = ap (λ (o : Outcome). is_marking n o.marking) (turn-made w m t ts x p) ∙ rest x (step_keeps n w m t x p h)
    go (refused c) p rest = ap (λ (o : Outcome). is_marking n o.marking) (turn-refused w m t ts c p) ∙ h

-- ---- a run, by any rule

-- the cases of a turn that neither limit nor history ends
pub run-cases : (w : List ℕ) (rule : List ℕ → Search) (limit room : ℕ) (m : List ℕ) (P : RunOutcome → Type 0)
    → (rule m ≡ nothing → P (ended nothing_enabled m))
    → (rule m ≡ malformed → P (ended (stopped 12) m))
    → ((t c : ℕ) → rule m ≡ lowest t → step w m t ≡ refused c → P (ended (stopped c) m))
    → ((t : ℕ) (next : List ℕ) → rule m ≡ lowest t → step w m t ≡ made next → P (preceded (t ∷ []) (run_by w rule limit room next)))
    → P (run_by w rule (suc limit) (suc room) m)
unfolding run_by
run-cases w rule limit room m P a b c d = go (rule m) refl
  where
    go2 : (t : ℕ) (s : Step) → rule m ≡ lowest t → step w m t ≡ s
        → P (elim s [ made next ↦ preceded (t ∷ []) (run_by w rule limit room next) | refused cause ↦ ended (stopped cause) m ])
    go2 t (made next) p q = d t next p q
    go2 t (refused cause) p q = c t cause p q

    go : (s : Search) → rule m ≡ s
        → P (elim s [
          | nothing ↦ ended nothing_enabled m
          | malformed ↦ ended (stopped 12) m
          | lowest t ↦ elim
              (step w m t) [ made next ↦ preceded (t ∷ []) (run_by w rule limit room next) | refused cause ↦ ended (stopped cause) m ]
        ])
    go nothing p = a p
    go malformed p = b p
    go (lowest t) p = go2 t (step w m t) p refl

-- a run is its history fired in turn
pub run-in-turn : (w : List ℕ) (rule : List ℕ → Search) (limit room : ℕ) (m : List ℕ)
    → in_turn w m (run_by w rule limit room m).history ≡ outcome 0 (run_by w rule limit room m).firings (run_by w rule limit room m).marking
unfolding run_by in_turn
run-in-turn w rule zero room m = refl
run-in-turn w rule (suc limit) zero m = refl
run-in-turn w rule (suc limit) (suc room) m =
    run-cases w rule limit room m (λ o. in_turn w m o.history ≡ outcome 0 o.firings o.marking) (λ p. refl) (λ p. refl) (λ t c p q. refl)
    (λ t next p q. turn-made w m t (run_by w rule limit room next).history next q ∙ ap (after 1) (run-in-turn w rule limit room next))

-- its count is the number of history words written, at most the limit and the room
pub run-count : (w : List ℕ) (rule : List ℕ → Search) (limit room : ℕ) (m : List ℕ)
    → length (run_by w rule limit room m).history ≡ (run_by w rule limit room m).firings
unfolding run_by
run-count w rule zero room m = refl
run-count w rule (suc limit) zero m = refl
run-count w rule (suc limit) (suc room) m =
    run-cases w rule limit room m (λ o. length o.history ≡ o.firings) (λ p. refl) (λ p. refl) (λ t c p q. refl)
    (λ t next p q. omega (arith, run-count w rule limit room next))

pub run-limits : (w : List ℕ) (rule : List ℕ → Search) (limit room : ℕ) (m : List ℕ)
    → ((run_by w rule limit room m).firings ≤ limit) × ((run_by w rule limit room m).firings ≤ room)
unfolding run_by
run-limits w rule zero room m = (omega arith, omega arith)
run-limits w rule (suc limit) zero m = (omega arith, omega arith)
run-limits w rule (suc limit) (suc room) m =
    run-cases w rule limit room m (λ o. (o.firings ≤ suc limit) × (o.firings ≤ suc room)) (λ p. (omega arith, omega arith)) (λ p. (omega arith, omega arith))
    (λ t c p q. (omega arith, omega arith))
    (λ t next p q. let r = run-limits w rule limit room next in (omega arith, omega arith))

pub run-keeps : (n : ℕ) (w : List ℕ) (rule : List ℕ → Search) (limit room : ℕ) (m : List ℕ)
    → is_marking n m ≡ true → is_marking n (run_by w rule limit room m).marking ≡ true
unfolding run_by
run-keeps n w rule zero room m h = h
run-keeps n w rule (suc limit) zero m h = h
run-keeps n w rule (suc limit) (suc room) m h =
    run-cases w rule limit room m (λ o. is_marking n o.marking ≡ true) (λ p. h) (λ p. h) (λ t c p q. h)
    (λ t next p q. run-keeps n w rule limit room next (step_keeps n w m t next q h))
