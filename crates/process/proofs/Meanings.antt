-- What labels name: the step in a label's meaning, labels of copies and releases, and the label of a step that is open.
use mathlib.Core.Path.{◌≡◌, refl, sym, ap, ◌∙◌}
use mathlib.Core.Logic.{◌⊎◌, inl, inr}
use mathlib.Core.Bool.{Bool, true, false, ◌&&◌, false≢true}
use mathlib.Core.List.{[], ◌∷◌}
use Prim.Native.Nat.{ℕ, ◌≤◌}
use native.Mathlib.Omega.{arith}
use borrow.Author.Tests.{lt-leb}
use Rattle.lists.specs.Lists.{pick, same, member}
use Rattle.lists.proofs.Tests.{same_true, same_false}
use Rattle.scheme.specs.Scheme.{Scheme, Node, stop, choice, new, call, Branch, absent, silent, send, receive}
use Rattle.scheme.specs.Kinds.{is_send}
use Rattle.table.specs.Accepted.{Accepted}
use Rattle.net.specs.Image.{is_bookkeeping}
use Rattle.process.specs.States.{State}
use Rattle.process.specs.Steps.{Step, new_step, silent_step, communication, step_call, no_step, is_step_open}
use Rattle.process.specs.Labels.{label_of, new_name, named_new, named_call, named_silent, named_communication, is_partner, step_of}
use Rattle.process.specs.Labels.{Bookkeeping, copy, release, Meaning, bookkeeping, step, missing, step_meaning}
use Rattle.process.specs.Labels.{copies, releases, named_copy, named_release, meaning_of, has_label}

-- ---- meanings

-- the step of a meaning, none for bookkeeping
abbrev pub step_of_meaning : Meaning → Step
step_of_meaning (bookkeeping k) = no_step
step_of_meaning (step x) = x
step_of_meaning missing = no_step

step-in-meaning : (x : Step) → step_of_meaning (step_meaning x) ≡ x
step-in-meaning (new_step n) = refl
step-in-meaning (silent_step b) = refl
step-in-meaning (communication b c) = refl
step-in-meaning (step_call n) = refl
step-in-meaning no_step = refl

step-meant : (x : Step) → (x ≡ no_step → ⊥) → step_meaning x ≡ step x
step-meant (new_step n) d = refl
step-meant (silent_step b) d = refl
step-meant (communication b c) d = refl
step-meant (step_call n) d = refl
step-meant no_step d = absurd (d refl)

kept-no-step : (t : Bool) (k : Bookkeeping) → step_of_meaning (pick t (bookkeeping k) missing) ≡ no_step
kept-no-step true k = refl
kept-no-step false k = refl

module _ (S : Scheme) where
  kept-kinds : (a b : ℕ) → (step_of S 0 a b ≡ no_step) × (step_of S 1 a b ≡ no_step)
  unfolding step_of same
  kept-kinds a b = (refl, refl)

  module _ (k a b : ℕ) where
    at-0 : same k 0 ≡ true → step_of S k a b ≡ no_step
    at-0 e = rw (same_true k 0 e) (kept-kinds a b).0

    at_1 : same k 1 ≡ true → step_of S k a b ≡ no_step
    at_1 e = rw (same_true k 1 e) (kept-kinds a b).1

    -- the step that a label names is the one in its meaning
    pub step_in : step_of_meaning (meaning_of S k a b) ≡ step_of S k a b
    unfolding meaning_of
    step_in = go (same k 0) refl (same k 1) refl
      where
        go : (p : Bool) → same k 0 ≡ p → (q : Bool) → same k 1 ≡ q
            → step_of_meaning (pick p (named_copy S a b) (pick q (named_release S a b) (step_meaning (step_of S k a b)))) ≡ step_of S k a b
        go true e q f = kept-no-step (copies S b (S.node a)) (copy a b) ∙ sym (at-0 e)
        go false e true f = kept-no-step (releases S (S.held a) b (S.node a)) (release a b) ∙ sym (at_1 f)
        go false e false f = step-in-meaning (step_of S k a b)

    pub step-told : (m : Meaning) → m ≡ meaning_of S k a b → step_of_meaning m ≡ step_of S k a b
    step-told m e = ap step_of_meaning e ∙ step_in

    pub names-step : (x : Step) → step_of S k a b ≡ x → (x ≡ no_step → ⊥) → meaning_of S k a b ≡ step x
    unfolding meaning_of
    names-step x h d = go (same k 0) refl (same k 1) refl
      where
        go : (p : Bool) → same k 0 ≡ p → (q : Bool) → same k 1 ≡ q
            → pick p (named_copy S a b) (pick q (named_release S a b) (step_meaning (step_of S k a b))) ≡ step x
        go true e q f = absurd (d (sym h ∙ at-0 e))
        go false e true f = absurd (d (sym h ∙ at_1 f))
        go false e false f = ap step_meaning h ∙ step-meant x d

    -- bookkeeping has kinds 0 and 1, steps have the others
    pub bookkeeping-kind : (m : Bookkeeping) → meaning_of S k a b ≡ bookkeeping m → is_bookkeeping k ≡ true
    unfolding meaning_of
    bookkeeping-kind m h = go (same k 0) refl (same k 1) refl h
      where
        never : (x : Step) → step_meaning x ≡ bookkeeping m → ⊥
        never (new_step n) e = let z : ◌≡◌ {A = ℕ} 0 1 = cc in omega arith
        never (silent_step c) e = let z : ◌≡◌ {A = ℕ} 0 1 = cc in omega arith
        never (communication c d) e = let z : ◌≡◌ {A = ℕ} 0 1 = cc in omega arith
        never (step_call n) e = let z : ◌≡◌ {A = ℕ} 0 1 = cc in omega arith
        never no_step e = let z : ◌≡◌ {A = ℕ} 0 1 = cc in omega arith

        go : (p : Bool) → same k 0 ≡ p → (q : Bool) → same k 1 ≡ q
            → pick p (named_copy S a b) (pick q (named_release S a b) (step_meaning (step_of S k a b))) ≡ bookkeeping m → is_bookkeeping k ≡ true
        go true e q f i = rw (same_true k 0 e)
        go false e true f i = rw (same_true k 1 f)
        go false e false f i = absurd (never (step_of S k a b) i)

    pub step-kind : (x : Step) → meaning_of S k a b ≡ step x → is_bookkeeping k ≡ false
    unfolding meaning_of
    step-kind x h = go (same k 0) refl (same k 1) refl h
      where
        never : (t : Bool) (m : Bookkeeping) → pick t (bookkeeping m) missing ≡ step x → ⊥
        never true m e = let z : ◌≡◌ {A = ℕ} 0 1 = cc in omega arith
        never false m e = let z : ◌≡◌ {A = ℕ} 0 1 = cc in omega arith

        go : (p : Bool) → same k 0 ≡ p → (q : Bool) → same k 1 ≡ q
            → pick p (named_copy S a b) (pick q (named_release S a b) (step_meaning (step_of S k a b))) ≡ step x → is_bookkeeping k ≡ false
        go true e q f i = absurd (never (copies S b (S.node a)) (copy a b) i)
        go false e true f i = absurd (never (releases S (S.held a) b (S.node a)) (release a b) i)
        go false e false f i = let u = same_false k 0 e in let v = same_false k 1 f in lt-leb k 1 (omega arith)

  pub names-copy : (n d x : ℕ) → S.node n ≡ call d → member x (S.formals d) ≡ true → meaning_of S 0 n x ≡ bookkeeping (copy n x)
  unfolding meaning_of same
  names-copy n d x e h = rw (e, h)

  pub names-release : (n x : ℕ) → releases S (S.held n) x (S.node n) ≡ true → meaning_of S 1 n x ≡ bookkeeping (release n x)
  unfolding meaning_of same
  names-release n x h = rw h

  -- a node that the table does not have releases nothing
  pub none-outside : Accepted S → (n x : ℕ) → S.nodes ≤ n → releases S (S.held n) x (S.node n) ≡ false
  unfolding member
  none-outside A n x h = rw (A.held-inside n h) (go (S.node n))
    where
      go : (ν : Node) → releases S [] x ν ≡ false
      go stop = refl
      go (choice f c) = refl
      go (new r l) = refl
      go (call d) = refl

-- ---- the label of a step

module _ (S : Scheme) where
  -- a step that a label names has just that label
  Own : ℕ → ℕ → ℕ → Step → Type 0
  Own k a b x = (x ≡ no_step) ⊎ (label_of S x ≡ k ∷ a ∷ b ∷ [])

  own_new : (a b : ℕ) (ν : Node) → S.node a ≡ ν → Own 2 a b (named_new S a b ν)
  unfolding Own
  own_new a b stop e = inl refl
  own_new a b (choice f c) e = inl refl
  own_new a b (call d) e = inl refl
  own_new a b (new r l) e = go (same b r) refl
    where
      go : (y : Bool) → same b r ≡ y → Own 2 a b (pick y (new_step a) no_step)
      go false q = inl refl
      go true q = inr (ap (λ (x : ℕ). 2 ∷ a ∷ x ∷ []) (ap new_name e ∙ sym (same_true b r q)))

  own-call : (a b : ℕ) (ν : Node) → Own 5 a b (named_call S a b ν)
  unfolding Own
  own-call a b stop = inl refl
  own-call a b (choice f c) = inl refl
  own-call a b (new r l) = inl refl
  own-call a b (call d) = go (same b 0) refl
    where
      go : (y : Bool) → same b 0 ≡ y → Own 5 a b (pick y (step_call a) no_step)
      go false q = inl refl
      go true q = inr (ap (λ (x : ℕ). 5 ∷ a ∷ x ∷ []) (sym (same_true b 0 q)))

  own-silent : (a b : ℕ) (β : Branch) → Own 3 a b (named_silent S a b β)
  unfolding Own
  own-silent a b absent = inl refl
  own-silent a b (send c z l) = inl refl
  own-silent a b (receive c y l) = inl refl
  own-silent a b (silent l) = go (same b 0) refl
    where
      go : (y : Bool) → same b 0 ≡ y → Own 3 a b (pick y (silent_step a) no_step)
      go false q = inl refl
      go true q = inr (ap (λ (x : ℕ). 3 ∷ a ∷ x ∷ []) (sym (same_true b 0 q)))

  own-communication : (a b : ℕ) (y : Bool) → Own 4 a b (pick y (communication a b) no_step)
  unfolding Own
  own-communication a b false = inl refl
  own-communication a b true = inr refl

  own : (k a b : ℕ) → Own k a b (step_of S k a b)
  unfolding step_of Own
  own k a b = go (same k 2) (same k 3) (same k 4) (same k 5) refl refl refl refl
    where
      go : (p q r s : Bool) → same k 2 ≡ p → same k 3 ≡ q → same k 4 ≡ r → same k 5 ≡ s
          → Own k a b (pick p (named_new S a b (S.node a)) (pick q (named_silent S a b (S.branch a))
          (pick r (named_communication S a b) (pick s (named_call S a b (S.node a)) no_step))))
      go true q r s e f g h = rw (same_true k 2 e) (own_new a b (S.node a) refl)
      go false true r s e f g h = rw (same_true k 3 f) (own-silent a b (S.branch a))
      go false false true s e f g h = rw (same_true k 4 g) (own-communication a b (is_send (S.branch a) && is_partner S a b))
      go false false false true e f g h = rw (same_true k 5 h) (own-call a b (S.node a))
      go false false false false e f g h = inl refl

  module _ (s : State) (k a b : ℕ) (x : Step) (e : step_of S k a b ≡ x) (o : is_step_open S s x ≡ true) where
    is-step : x ≡ no_step → ⊥
    unfolding is_step_open
    is-step n = false≢true (sym (ap (is_step_open S s) n) ∙ o)

    -- an open step's label is the label that names it
    pub open-label : label_of S x ≡ k ∷ a ∷ b ∷ []
    unfolding Own
    open-label = go (own k a b)
      where
        go : Own k a b (step_of S k a b) → label_of S x ≡ k ∷ a ∷ b ∷ []
        go (inl n) = absurd (is-step (sym e ∙ n))
        go (inr l) = ap (label_of S) (sym e) ∙ l

    -- and the table has it
    pub open-there : has_label S k a b ≡ true
    unfolding has_label
    open-there = rw (names-step S k a b x e is-step)
