-- The outcome of taking a step, refusal by refusal.
use mathlib.Core.Path.{◌≡◌, refl, sym, ap, ◌∙◌}
use mathlib.Core.Bool.{Bool, true, false, false≢true}
use mathlib.Core.List.{List, [], ◌∷◌, map}
use mathlib.Core.Logic.{◌⊎◌, inl, inr}
use mathlib.Core.Option.{Option, none, some}
use Prim.Native.Nat.{ℕ, suc, ◌+◌, ◌≤◌, ◌<◌}
use native.Mathlib.Omega.{arith}
use lib.Dec.{ltb}
use lib.ListN.{length, length-append, length-map}
use lib.Seq.{sets}
use borrow.Author.Tests.{lt-ltb, le-ltb}
use Rattle.lists.specs.Lists.{from, range}
use Rattle.lists.proofs.Tests.{same_self, true-or-false, not-true-false}
use Rattle.lists.proofs.Ranges.{from-length}
use Rattle.lists.proofs.Stores.{sets-append}
use Rattle.scheme.specs.Words.{publics, bounds, threads}
use Rattle.table.specs.Causes.{cause}
use Rattle.scheme.specs.Scheme.{Scheme, scheme}
use Rattle.process.specs.States.{State}
use Rattle.process.specs.Steps.{Step, no_step, is_step_open, take}
use Rattle.process.specs.Labels.{step_of}
use Rattle.process.specs.StateWords.{state_of, state_words, value_words, noted, is_well_formed}
use Rattle.process.specs.Outcomes.{answered, step_outcome, refusal}
use Rattle.process.specs.Inner.Codes.{if_open, meant, Going}
use Rattle.process.specs.declared.labels.Step as code
use Rattle.process.specs.declared.labels.Step.TheVariants.{New, Silent, Communicate, Call}
use Rattle.process.proofs.Sets.{sets-whole}

-- ---- the words of any state

pub value-words-length : (P : ℕ) (seen : List ℕ) (os : List (Option ℕ)) → length (value_words P seen os) ≡ length os
unfolding value_words
value-words-length P seen [] = refl
value-words-length P seen (none ∷ os) = ap suc (value-words-length P seen os)
value-words-length P seen (some v ∷ os) = go (ltb v P) refl (value-words-length P seen os) (value-words-length P (noted v seen) os)
  where
    go : (d : Bool) → ltb v P ≡ d → length (value_words P seen os) ≡ length os → length (value_words P (noted v seen) os) ≡ length os
        → length (value_words P seen (some v ∷ os)) ≡ suc (length os)
    go true e h k = rw (e, value_words) (ap suc h)
    go false e h k = rw (e, value_words) (ap suc k)

pub state-words-length : (w : List ℕ) (s : State) → length (state_words (scheme w) s) ≡ threads w + bounds w
unfolding state_words scheme
state-words-length w s =
    rw (
      length-append,
      length-map (range (threads w)) s.node,
      from-length 0 (threads w),
      value-words-length,
      length-map (from (publics w) (bounds w)) s.value,
      from-length (publics w) (bounds w),
    )

-- nodes written, then values
pub state-written : (w : List ℕ) (s : State) (lent middle left : List ℕ) → middle ≡ sets lent 0 (map s.node (range (threads w)))
    → left ≡ sets middle (threads w) (value_words (publics w) [] (map s.value (from (publics w) (bounds w))))
    → left ≡ sets lent 0 (state_words (scheme w) s)
unfolding state_words scheme
state-written w s lent middle left f g =
    let m : 0 + length (map s.node (range (threads w))) ≡ threads w = rw (length-map (range (threads w)) s.node, from-length 0 (threads w)) (omega arith) in
    g ∙ rw (f, sets-append lent 0 (map s.node (range (threads w))) (value_words (publics w) [] (map s.value (from (publics w) (bounds w)))), m)

-- ---- the outcome

counted : (w : List ℕ) → (scheme w).threads + (scheme w).bounds ≡ threads w + bounds w
unfolding scheme
counted w = refl

-- a step that is to be taken is the one named, and is open
pub taken : (S : Scheme) (s : State) (x : Step) (y : code.Step) → meant y ≡ if_open S s x → (is_step_open S s x ≡ true) × (meant y ≡ x)
taken S s x y h = go (true-or-false (is_step_open S s x))
  where
    never : (z : code.Step) → meant z ≡ no_step → ⊥
    never (New n) e = let z : ◌≡◌ {A = ℕ} 0 1 = cc in omega arith
    never (Silent b) e = let z : ◌≡◌ {A = ℕ} 0 1 = cc in omega arith
    never (Communicate p) e = let z : ◌≡◌ {A = ℕ} 0 1 = cc in omega arith
    never (Call n) e = let z : ◌≡◌ {A = ℕ} 0 1 = cc in omega arith

    go : (is_step_open S s x ≡ true) ⊎ (is_step_open S s x ≡ false) → (is_step_open S s x ≡ true) × (meant y ≡ x)
    go (inl o) = (o, h ∙ rw o)
    go (inr o) = absurd (never y (h ∙ rw o))

not_taken : (S : Scheme) (s : State) (x : Step) → no_step ≡ if_open S s x → is_step_open S s x ≡ false
unfolding is_step_open
not_taken S s x h = not-true-false (is_step_open S s x) (λ o. let e : no_step ≡ x = h ∙ rw o in false≢true (rw (← e) at o))

module _ (w ws : List ℕ) (kind a b : ℕ) (lent : List ℕ) where
  module _ (e : cause w ≡ 0) where
    pub step-malformed : is_well_formed (scheme w) ws ≡ false → refusal 18 lent ≡ step_outcome w ws kind a b lent
    unfolding step_outcome
    step-malformed f = rw (e, same_self 0, f)

    module _ (f : is_well_formed (scheme w) ws ≡ true) where
      pub step-shut : no_step ≡ if_open (scheme w) (state_of (scheme w) ws) (step_of (scheme w) kind a b) → refusal 19 lent ≡ step_outcome w ws kind a b lent
      unfolding step_outcome
      step-shut o = rw (e, same_self 0, f, not_taken (scheme w) (state_of (scheme w) ws) (step_of (scheme w) kind a b) o)

      module _ (y : code.Step) (o : meant y ≡ if_open (scheme w) (state_of (scheme w) ws) (step_of (scheme w) kind a b)) where
        pub step-short : length lent < threads w + bounds w → refusal 10 lent ≡ step_outcome w ws kind a b lent
        unfolding step_outcome answered
        step-short l =
            let t = taken (scheme w) (state_of (scheme w) ws) (step_of (scheme w) kind a b) y o in
            let after = take (scheme w) (step_of (scheme w) kind a b) (state_of (scheme w) ws) in
            let k : length lent < length (state_words (scheme w) after) = omega (arith, state-words-length w after) in
            rw (e, same_self 0, f, t.0, lt-ltb (length lent) (length (state_words (scheme w) after)) k)

        pub step-written : (r : ℕ) (left : List ℕ) → threads w + bounds w ≤ length lent → r ≡ threads w + bounds w
            → left ≡ sets lent 0 (state_words (scheme w) (take (scheme w) (meant y) (state_of (scheme w) ws)))
            → record { number = 0; value = some r; left = left } ≡ step_outcome w ws kind a b lent
        unfolding step_outcome answered
        step-written r left l q g =
            let t = taken (scheme w) (state_of (scheme w) ws) (step_of (scheme w) kind a b) y o in
            let after = take (scheme w) (step_of (scheme w) kind a b) (state_of (scheme w) ws) in
            let k : length (state_words (scheme w) after) ≤ length lent = omega (arith, state-words-length w after) in
            let i : sets lent 0 (state_words (scheme w) after) ≡ left = sym (g ∙ rw t.1) in
            rw (e, same_self 0, f, t.0, le-ltb (length lent) (length (state_words (scheme w) after)) k, q, counted w, ← sets-whole lent (state_words (scheme w) after) k, i)

        pub step-going : Going w ws (meant y)
        step-going =
            let t = taken (scheme w) (state_of (scheme w) ws) (step_of (scheme w) kind a b) y o in
            rw t.1 t.0
