-- States alike but for the names of private values: they have the same words and the same open steps, and every step keeps them so, New taking
-- any value not in use.
use Prim.Native.Nat.{ℕ, suc, ◌≤◌, ◌<◌}
use mathlib.Core.Path.{◌≡◌, refl, sym, ap, ◌∙◌}
use mathlib.Core.Logic.{inl}
use mathlib.Core.Bool.{Bool, true, false, true≢false, false≢true}
use mathlib.Core.Option.{Option, none, some}
use mathlib.Core.List.{List, [], ◌∷◌, ◌++◌, map}
use native.Mathlib.Decide.{ℕ_discrete}
use native.Mathlib.Omega.{arith}
use lib.Dec.{ltb}
use borrow.Author.Tests.{ltb-true}
use Rattle.lists.specs.Lists.{same, from, range, member}
use Rattle.lists.proofs.Tests.{same_self, same-no, and-false}
use Rattle.lists.proofs.Members.{map_same}
use Rattle.scheme.specs.Scheme.{Scheme, Node, stop, choice, new, call, Branch, absent, silent, send, receive}
use Rattle.table.specs.Accepted.{Accepted}
use Rattle.process.specs.States.{State, put, value_of, is_one_value, Renamed}
use Rattle.process.specs.Steps.{Step, new_step, silent_step, communication, step_call, no_step, take, is_step_open, new_at, call_at, silent_by, meet_by, can_communicate, newly, arrived, called, received}
use Rattle.process.specs.StateWords.{place, noted, value_words, state_words}

-- ---- values

-- values alike but for the names of private ones: at the same names, and equal at the same names
pub record Alike (e s : ℕ → Option ℕ) : Type 0 where
  pub given : (x : ℕ) → is_one_value (e x) (e x) ≡ is_one_value (s x) (s x)
  pub alike : (x y : ℕ) → e x ≡ e y → s x ≡ s y
  pub back : (x y : ℕ) → s x ≡ s y → e x ≡ e y

pub alike_self : (e : ℕ → Option ℕ) → Alike e e
alike_self e = record { given = λ x. refl; alike = λ x y h. h; back = λ x y h. h }

pub alike-back : {e s : ℕ → Option ℕ} → Alike e s → Alike s e
alike-back R = record { given = λ x. sym (R.given x); alike = R.back; back = R.alike }

pub alike_then : {e s r : ℕ → Option ℕ} → Alike e s → Alike s r → Alike e r
alike_then R Q = record { given = λ x. R.given x ∙ Q.given x; alike = λ x y h. Q.alike x y (R.alike x y h); back = λ x y h. R.back x y (Q.back x y h) }

-- a value that is not there
missing : (o : Option ℕ) → is_one_value o o ≡ false → o ≡ none
missing none h = refl
missing (some v) h = absurd (true≢false (sym (same_self v) ∙ h))

module _ {e s : ℕ → Option ℕ} (R : Alike e s) where
  -- names that take the values of other names, or none
  alike-taken : (o q : Option ℕ) → value_of e o ≡ value_of e q → value_of s o ≡ value_of s q
  alike-taken none none h = refl
  alike-taken none (some y) h = sym (missing (s y) (sym (R.given y) ∙ rw (← h)))
  alike-taken (some x) none h = missing (s x) (sym (R.given x) ∙ rw h)
  alike-taken (some x) (some y) h = R.alike x y h

  given-taken : (o : Option ℕ) → is_one_value (value_of e o) (value_of e o) ≡ is_one_value (value_of s o) (value_of s o)
  given-taken none = refl
  given-taken (some x) = R.given x

pub alike_moved : {e s : ℕ → Option ℕ} → Alike e s → (g : ℕ → Option ℕ) → Alike (λ x. value_of e (g x)) (λ x. value_of s (g x))
alike_moved R g = record {
  given = λ x. given-taken R (g x);
  alike = λ x y. alike-taken R (g x) (g y);
  back = λ x y. alike-taken (alike-back R) (g x) (g y);
}

-- a value that no name has, v on one side and u on the other
module _ {e s : ℕ → Option ℕ} (R : Alike e s) (r v u : ℕ) (fe : (x : ℕ) → e x ≡ some v → ⊥) (fs : (x : ℕ) → s x ≡ some u → ⊥) where
  put-here : (f : ℕ → Option ℕ) (o : Option ℕ) → put f r o r ≡ o
  unfolding put
  put-here f o = rw (same_self r)

  put-there : (f : ℕ → Option ℕ) (o : Option ℕ) (x : ℕ) → (x ≡ r → ⊥) → put f r o x ≡ f x
  unfolding put
  put-there f o x d = rw (same-no x r d)

  given-new : (x : ℕ) → Dec (x ≡ r) → is_one_value (put e r (some v) x) (put e r (some v) x) ≡ is_one_value (put s r (some u) x) (put s r (some u) x)
  given-new x (yes p) = rw (p, put-here e (some v), put-here s (some u), same_self v, same_self u)
  given-new x (no d) = rw (put-there e (some v) x d, put-there s (some u) x d) (R.given x)

  alike-put : (x y : ℕ) → Dec (x ≡ r) → Dec (y ≡ r) → put e r (some v) x ≡ put e r (some v) y → put s r (some u) x ≡ put s r (some u) y
  alike-put x y (yes p) (yes q) h = rw (p, q)
  alike-put x y (yes p) (no q) h = absurd (fe y (sym (put-there e (some v) y q) ∙ sym h ∙ rw (p, put-here e (some v))))
  alike-put x y (no p) (yes q) h = absurd (fe x (sym (put-there e (some v) x p) ∙ h ∙ rw (q, put-here e (some v))))
  alike-put x y (no p) (no q) h =
      rw (put-there s (some u) x p, put-there s (some u) y q) (R.alike x y (sym (put-there e (some v) x p) ∙ h ∙ put-there e (some v) y q))

pub alike-new : {e s : ℕ → Option ℕ} → Alike e s → (r v u : ℕ) → ((x : ℕ) → e x ≡ some v → ⊥) → ((x : ℕ) → s x ≡ some u → ⊥)
    → Alike (put e r (some v)) (put s r (some u))
alike-new R r v u fe fs = record {
  given = λ x. given-new R r v u fe fs x (ℕ_discrete x r);
  alike = λ x y. alike-put R r v u fe fs x y (ℕ_discrete x r) (ℕ_discrete y r);
  back = λ x y. alike-put (alike-back R) r u v fs fe x y (ℕ_discrete x r) (ℕ_discrete y r);
}

-- ---- words

module _ (e s : ℕ → Option ℕ) (R : Alike e s) where
  -- the private values seen so far, in the order of their first names
  data Seen : List ℕ → List ℕ → Type 0 where
    none_yet : Seen [] []
    seen : {a b : ℕ} {us ws : List ℕ} (z : ℕ) → e z ≡ some a → s z ≡ some b → Seen us ws → Seen (a ∷ us) (b ∷ ws)

  same_alike : (x z v w a b : ℕ) → e x ≡ some v → s x ≡ some w → e z ≡ some a → s z ≡ some b → same v a ≡ same w b
  same_alike x z v w a b p q r t = go (ℕ_discrete v a)
    where
      go : Dec (v ≡ a) → same v a ≡ same w b
      go (yes d) = let h : w ≡ b = cc (R.alike x z (cc)) in rw (d, h, same_self a, same_self b)
      go (no d) = rw (same-no v a d, same-no w b (λ h. d (let k : e x ≡ e z = R.back x z (cc) in cc)))

  module _ (x v w : ℕ) (p : e x ≡ some v) (q : s x ≡ some w) where
    place-alike : {us ws : List ℕ} → Seen us ws → place v us ≡ place w ws
    unfolding place
    place-alike none_yet = refl
    place-alike (seen {a = a} {b = b} {us = us} {ws = ws} z r t l) = go (same v a) refl (place-alike l)
      where
        go : (d : Bool) → same v a ≡ d → place v us ≡ place w ws → place v (a ∷ us) ≡ place w (b ∷ ws)
        go true h ih = rw (h, place, sym (same_alike x z v w a b p q r t) ∙ h)
        go false h ih = rw (h, place, sym (same_alike x z v w a b p q r t) ∙ h) (ap suc ih)

    member_alike : {us ws : List ℕ} → Seen us ws → member v us ≡ member w ws
    unfolding member
    member_alike none_yet = refl
    member_alike (seen {a = a} {b = b} {us = us} {ws = ws} z r t l) = rw (same_alike x z v w a b p q r t, member_alike l)

    seen_last : {us ws : List ℕ} → Seen us ws → Seen (us ++ (v ∷ [])) (ws ++ (w ∷ []))
    seen_last none_yet = seen x p q none_yet
    seen_last (seen z r t l) = seen z r t (seen_last l)

    noted-alike : {us ws : List ℕ} → Seen us ws → Seen (noted v us) (noted w ws)
    unfolding noted
    noted-alike {us = us} {ws = ws} l = go (member v us) refl
      where
        go : (d : Bool) → member v us ≡ d → Seen (noted v us) (noted w ws)
        go true h = rw (h, sym (member_alike l) ∙ h) l
        go false h = rw (h, sym (member_alike l) ∙ h) (seen_last l)

  module _ (P : ℕ) (pe : (x : ℕ) → x < P → e x ≡ some x) (ps : (x : ℕ) → x < P → s x ≡ some x) where
    public-alike : (x v w : ℕ) → e x ≡ some v → s x ≡ some w → v < P → v ≡ w
    public-alike x v w p q l = let h : s x ≡ s v = R.alike x v (cc (pe v l)) in cc (ps v l)

    public-back : (x v w : ℕ) → e x ≡ some v → s x ≡ some w → w < P → v ≡ w
    public-back x v w p q l = let h : e x ≡ e w = R.back x w (cc (ps w l)) in cc (pe w l)

    ltb-alike : (x v w : ℕ) → e x ≡ some v → s x ≡ some w → ltb v P ≡ ltb w P
    ltb-alike x v w p q = go (ltb v P) refl (ltb w P) refl
      where
        go : (a : Bool) → ltb v P ≡ a → (b : Bool) → ltb w P ≡ b → ltb v P ≡ ltb w P
        go true f true g = f ∙ sym g
        go false f false g = f ∙ sym g
        go true f false g = let h : v ≡ w = public-alike x v w p q (ltb-true v P f) in rw h
        go false f true g = let h : v ≡ w = public-back x v w p q (ltb-true w P g) in rw h

    words-alike : (xs us ws : List ℕ) → Seen us ws → value_words P us (map e xs) ≡ value_words P ws (map s xs)
    unfolding value_words
    words-alike [] us ws l = refl
    words-alike (x ∷ xs) us ws l = go (e x) refl (s x) refl (words-alike xs)
      where
        go : (o : Option ℕ) → e x ≡ o → (r : Option ℕ) → s x ≡ r
            → ((us ws : List ℕ) → Seen us ws → value_words P us (map e xs) ≡ value_words P ws (map s xs))
            → value_words P us (map e (x ∷ xs)) ≡ value_words P ws (map s (x ∷ xs))
        go none p none q ih = rw (p, q, ih us ws l)
        go none p (some w) q ih = absurd (false≢true (sym (rw p) ∙ R.given x ∙ rw q (same_self w)))
        go (some v) p none q ih = absurd (true≢false (sym (rw p (same_self v)) ∙ R.given x ∙ rw q))
        go (some v) p (some w) q ih = decide (ltb v P) refl
          where
            decide : (d : Bool) → ltb v P ≡ d → value_words P us (map e (x ∷ xs)) ≡ value_words P ws (map s (x ∷ xs))
            decide true f = rw (p, q, f, value_words, sym (ltb-alike x v w p q) ∙ f, public-alike x v w p q (ltb-true v P f), ih us ws l)
            decide false f =
                let l' : Seen (noted v us) (noted w ws) = noted-alike x v w p q l in
                rw (p, q, f, value_words, sym (ltb-alike x v w p q) ∙ f, place-alike x v w p q l', ih (noted v us) (noted w ws) l')

-- ---- states

module _ (S : Scheme) where
  -- every public name has itself
  abbrev pub PublicsThemselves : State → Type 0
  PublicsThemselves s = (x : ℕ) → x < S.publics → s.value x ≡ some x

  -- no name has the counter's value, which New would take
  abbrev pub CounterFree : State → Type 0
  CounterFree s = (x : ℕ) → s.value x ≡ some s.counter → ⊥

  pub values : {s t : State} → Renamed S s t → Alike s.value t.value
  values R = record { given = R.given; alike = R.alike; back = R.back }

  pub renamed : {s t : State} → ((θ : ℕ) → s.node θ ≡ t.node θ) → Alike s.value t.value → Renamed S s t
  renamed h R = record { nodes = h; given = R.given; alike = R.alike; back = R.back }

  pub renamed-self : (s : State) → Renamed S s s
  renamed-self s = renamed (λ θ. refl) (alike_self s.value)

  pub renamed-back : {s t : State} → Renamed S s t → Renamed S t s
  renamed-back R = renamed (λ θ. sym (R.nodes θ)) (alike-back (values R))

  pub renamed-then : {s t u : State} → Renamed S s t → Renamed S t u → Renamed S s u
  renamed-then R Q = renamed (λ θ. R.nodes θ ∙ Q.nodes θ) (alike_then (values R) (values Q))

  -- the same words
  pub words-renamed : (s t : State) → Renamed S s t → PublicsThemselves s → PublicsThemselves t → state_words S s ≡ state_words S t
  unfolding state_words
  words-renamed s t R ps pt =
      rw (
        map_same s.node t.node (range S.threads) R.nodes,
        words-alike s.value t.value (values R) S.publics ps pt (from S.publics S.bounds) [] [] none_yet,
      )

  -- the same open steps
  pub meets-renamed : {e s : ℕ → Option ℕ} → Alike e s → (x y : ℕ) → is_one_value (e x) (e y) ≡ is_one_value (s x) (s y)
  meets-renamed {e} {s} R x y = go (e x) refl (e y) refl (s x) refl (s y) refl
    where
      lost : (z v : ℕ) → e z ≡ some v → s z ≡ none → ⊥
      lost z v p q = true≢false (sym (rw p (same_self v)) ∙ R.given z ∙ rw q)

      gained : (z v : ℕ) → e z ≡ none → s z ≡ some v → ⊥
      gained z v p q = false≢true (sym (rw p) ∙ R.given z ∙ rw q (same_self v))

      go : (o : Option ℕ) → e x ≡ o → (q : Option ℕ) → e y ≡ q → (o' : Option ℕ) → s x ≡ o' → (q' : Option ℕ) → s y ≡ q' → is_one_value (e x) (e y) ≡ is_one_value (s x) (s y)
      go none p o₁ p₁ none p₂ o₃ p₃ = rw (p, p₂)
      go none p o₁ p₁ (some w) p₂ o₃ p₃ = absurd (gained x w p p₂)
      go (some v) p o₁ p₁ none p₂ o₃ p₃ = absurd (lost x v p p₂)
      go (some v) p none p₁ (some w) p₂ none p₃ = rw (p, p₁, p₂, p₃)
      go (some v) p none p₁ (some w) p₂ (some b) p₃ = absurd (gained y b p₁ p₃)
      go (some v) p (some a) p₁ (some w) p₂ none p₃ = absurd (lost y a p₁ p₃)
      go (some v) p (some a) p₁ (some w) p₂ (some b) p₃ = rw (p, p₁, p₂, p₃) (same_alike e s R x y v w a b p p₂ p₁ p₃)

  module _ (s t : State) (R : Renamed S s t) where
    meeting-renamed : (b : ℕ) (β : Branch) (c : ℕ) (γ : Branch) → can_communicate S s b β c γ ≡ can_communicate S t b β c γ
    meeting-renamed b absent c γ = refl
    meeting-renamed b (silent l) c γ = refl
    meeting-renamed b (send a z l) c absent = refl
    meeting-renamed b (send a z l) c (silent m) = refl
    meeting-renamed b (send a z l) c (send e y m) = refl
    meeting-renamed b (send a z l) c (receive e y m) =
        rw (R.nodes (S.thread (S.home b)), R.nodes (S.thread (S.home c)), meets-renamed (values R) a e)
    meeting-renamed b (receive a y l) c γ = refl

    pub open-renamed : (x : Step) → is_step_open S s x ≡ is_step_open S t x
    unfolding is_step_open
    open-renamed (new_step n) = rw (R.nodes (S.thread n))
    open-renamed (silent_step b) = rw (R.nodes (S.thread (S.home b)))
    open-renamed (communication b c) = meeting-renamed b (S.branch b) c (S.branch c)
    open-renamed (step_call n) = rw (R.nodes (S.thread n))
    open-renamed no_step = refl

    -- ---- every step keeps the relation

    put-alike : (θ n : ℕ) → (k : ℕ) → put s.node θ n k ≡ put t.node θ n k
    unfolding put
    put-alike θ n k = rw (R.nodes k)

    put-twice : (θ n η m : ℕ) → (k : ℕ) → put (put s.node θ n) η m k ≡ put (put t.node θ n) η m k
    unfolding put
    put-twice θ n η m k = rw (R.nodes k)

    silent-renamed : (b : ℕ) (β : Branch) → Renamed S (silent_by S b β s) (silent_by S b β t)
    silent-renamed b absent = R
    silent-renamed b (silent l) = renamed (put-alike (S.thread (S.home b)) l) (alike_moved (values R) (arrived S (S.thread (S.home b)) l))
    silent-renamed b (send a z l) = R
    silent-renamed b (receive a y l) = R

    meet-renamed : (b : ℕ) (β : Branch) (c : ℕ) (γ : Branch) → Renamed S (meet_by S b β c γ s) (meet_by S b β c γ t)
    meet-renamed b absent c γ = R
    meet-renamed b (silent l) c γ = R
    meet-renamed b (send a z l) c absent = R
    meet-renamed b (send a z l) c (silent m) = R
    meet-renamed b (send a z l) c (send e y m) = R
    meet-renamed b (send a z l) c (receive e y m) =
        renamed (put-twice (S.thread (S.home b)) l (S.thread (S.home c)) m)
        (alike_moved (values R) (received S (S.thread (S.home b)) z l (S.thread (S.home c)) y m))
    meet-renamed b (receive a y l) c γ = R

    call-renamed : (n : ℕ) (ν : Node) → Renamed S (call_at S n ν s) (call_at S n ν t)
    call-renamed n stop = R
    call-renamed n (choice f c) = R
    call-renamed n (new r l) = R
    call-renamed n (call d) = renamed (put-alike (S.thread n) (S.root d)) (alike_moved (values R) (called S n d))

    pub newly-renamed : (θ r l : ℕ) → CounterFree s → CounterFree t → Renamed S (newly S θ r l s) (newly S θ r l t)
    newly-renamed θ r l fs ft =
        renamed (put-alike θ l) (alike_moved (alike-new (values R) r s.counter t.counter fs ft) (arrived S θ l))

    new-renamed : (n : ℕ) (ν : Node) → CounterFree s → CounterFree t → Renamed S (new_at S n ν s) (new_at S n ν t)
    new-renamed n stop fs ft = R
    new-renamed n (choice f c) fs ft = R
    new-renamed n (new r l) fs ft = newly-renamed (S.thread n) r l fs ft
    new-renamed n (call d) fs ft = R

    -- "every step keeps that relation, New taking any value not in use"
    pub step-renamed : (x : Step) → CounterFree s → CounterFree t → Renamed S (take S x s) (take S x t)
    unfolding take
    step-renamed (new_step n) fs ft = new-renamed n (S.node n) fs ft
    step-renamed (silent_step b) fs ft = silent-renamed b (S.branch b)
    step-renamed (communication b c) fs ft = meet-renamed b (S.branch b) c (S.branch c)
    step-renamed (step_call n) fs ft = call-renamed n (S.node n)
    step-renamed no_step fs ft = R

    -- steps other than New ask nothing of the counters
    pub old-step-renamed : (x : Step) → ((n : ℕ) → x ≡ new_step n → ⊥) → Renamed S (take S x s) (take S x t)
    unfolding take
    old-step-renamed (new_step n) h = absurd (h n refl)
    old-step-renamed (silent_step b) h = silent-renamed b (S.branch b)
    old-step-renamed (communication b c) h = meet-renamed b (S.branch b) c (S.branch c)
    old-step-renamed (step_call n) h = call-renamed n (S.node n)
    old-step-renamed no_step h = R

  -- ---- what holds of a process's own states: values lie below the counter, so New takes a value not in use, and public names have themselves

  abbrev pub ValuesBelow : State → Type 0
  ValuesBelow s = (x v : ℕ) → s.value x ≡ some v → v < s.counter

  pub below_free : (s : State) → ValuesBelow s → CounterFree s
  below_free s h x p = let k : s.counter < s.counter = h x s.counter p in omega arith

  moved-below : (f : ℕ → Option ℕ) (n : ℕ) → ((x v : ℕ) → f x ≡ some v → v < n) → (o : Option ℕ) (v : ℕ) → value_of f o ≡ some v → v < n
  moved-below f n h none v p = let z : ◌≡◌ {A = ℕ} 0 1 = cc in absurd (omega arith)
  moved-below f n h (some x) v p = h x v p

  pub values-below : (s : State) → ValuesBelow s → (x : Step) → ValuesBelow (take S x s)
  unfolding take put
  values-below s h (new_step n) = go (S.node n)
    where
      made : (r y v : ℕ) → (d : Bool) → same y r ≡ d → put s.value r (some s.counter) y ≡ some v → v < suc s.counter
      made r y v true e p = let k : some s.counter ≡ some v = (rw e at p) in let j : s.counter ≡ v = cc in omega arith
      made r y v false e p = let k : v < s.counter = h y v (rw e at p) in omega arith

      go : (ν : Node) → ValuesBelow (new_at S n ν s)
      go stop = h
      go (choice f c) = h
      go (new r l) = λ y v p. moved-below (put s.value r (some s.counter)) (suc s.counter) (λ z u q. made r z u (same z r) refl q) (arrived S (S.thread n) l y) v p
      go (call d) = h
  values-below s h (silent_step b) = go (S.branch b)
    where
      go : (β : Branch) → ValuesBelow (silent_by S b β s)
      go absent = h
      go (silent l) = λ y v p. moved-below s.value s.counter h (arrived S (S.thread (S.home b)) l y) v p
      go (send a z l) = h
      go (receive a y l) = h
  values-below s h (communication b c) = go (S.branch b) (S.branch c)
    where
      go : (β γ : Branch) → ValuesBelow (meet_by S b β c γ s)
      go absent γ = h
      go (silent l) γ = h
      go (send a z l) absent = h
      go (send a z l) (silent m) = h
      go (send a z l) (send e y m) = h
      go (send a z l) (receive e y m) = λ x v p.
          moved-below s.value s.counter h (received S (S.thread (S.home b)) z l (S.thread (S.home c)) y m x) v p
      go (receive a y l) γ = h
  values-below s h (step_call n) = go (S.node n)
    where
      go : (ν : Node) → ValuesBelow (call_at S n ν s)
      go stop = h
      go (choice f c) = h
      go (new r l) = h
      go (call d) = λ y v p. moved-below s.value s.counter h (called S n d y) v p
  values-below s h no_step = h

  module _ (ok : Accepted S) (s : State) (h : PublicsThemselves s) where
    elsewhere : (x n : ℕ) → x < S.publics → same (S.thread_of_name x) (S.thread n) ≡ false
    elsewhere x n l =
        same-no _ _ (λ e. let p : S.thread_of_name x ≡ S.threads = ok.no-thread x (inl l) in let q : S.thread n < S.threads = ok.thread-inside n in omega arith)

    stays : (n l x : ℕ) → x < S.publics → arrived S (S.thread n) l x ≡ some x
    stays n l x u = rw (elsewhere x n u, and-false)

    pub publics-themselves : (x : Step) → PublicsThemselves (take S x s)
    unfolding take put
    publics-themselves (new_step n) = go (S.node n) refl
      where
        go : (ν : Node) → S.node n ≡ ν → PublicsThemselves (new_at S n ν s)
        go stop e = h
        go (choice f c) e = h
        go (new r l) e = λ x u. rw (stays n l x u, same-no x r (λ p. let q : S.publics ≤ r = (ok.new-name n r l e).low in omega arith), h x u)
        go (call d) e = h
    publics-themselves (silent_step b) = go (S.branch b)
      where
        go : (β : Branch) → PublicsThemselves (silent_by S b β s)
        go absent = h
        go (silent l) = λ x u. rw (stays (S.home b) l x u, h x u)
        go (send a z l) = h
        go (receive a y l) = h
    publics-themselves (communication b c) = go (S.branch b) (S.branch c) refl
      where
        go : (β γ : Branch) → S.branch c ≡ γ → PublicsThemselves (meet_by S b β c γ s)
        go absent γ e = h
        go (silent l) γ e = h
        go (send a z l) absent e = h
        go (send a z l) (silent m) e = h
        go (send a z l) (send f y m) e = h
        go (send a z l) (receive f y m) e = λ x u.
            rw (
              elsewhere x (S.home b) u,
              and-false,
              elsewhere x (S.home c) u,
              and-false,
              same-no x y (λ p. let q : S.publics ≤ y = (ok.receive-name c f y m e).low in omega arith),
              h x u,
            )
        go (receive a y l) γ e = h
    publics-themselves (step_call n) = go (S.node n)
      where
        go : (ν : Node) → PublicsThemselves (call_at S n ν s)
        go stop = h
        go (choice f c) = h
        go (new r l) = h
        go (call d) = λ x u. rw (elsewhere x n u, h x u)
    publics-themselves no_step = h
