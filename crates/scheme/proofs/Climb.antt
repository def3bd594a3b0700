-- Going up from a node to its owner: what is held there, and in which definition it stands. Each step goes strictly down in number, so fuel suc n
-- at node n is always enough, whatever `own` and `at` say.
use mathlib.Core.Path.{◌≡◌, refl, sym, ◌∙◌}
use mathlib.Core.List.{List, [], ◌∷◌, ◌++◌}
use Prim.Native.Nat.{ℕ, zero, suc, ◌≤◌, ◌<◌}
use native.Mathlib.Decide.{dec_lt}
use native.Mathlib.Omega.{arith}
use borrow.Author.Tests.{lt-ltb, le-ltb}
use Rattle.scheme.specs.Words.{formals, node_first}
use Rattle.scheme.specs.Owners.{Owner, root_of, child_of, next_of, nobody, binds_of, held_names_by, definition_by}

module _ (own : ℕ → Owner) (at : ℕ → ℕ) where
  -- F climbs: at a root it is known, below an owner it is made from what F is at the owner, and elsewhere it is the default
  pub record Climbs {A : Type 0} (F : ℕ → ℕ → A) (root : ℕ → A) (child next : ℕ → A → A) (default : A) : Type 0 where
    pub at-root : (f n d : ℕ) → own n ≡ root_of d → F (suc f) n ≡ root d
    pub at-child : (f n m : ℕ) → own n ≡ child_of m → m < n → F (suc f) n ≡ child m (F f m)
    pub at_next : (f n b : ℕ) → own n ≡ next_of b → at b < n → F (suc f) n ≡ next b (F f (at b))
    pub not-child : (f n m : ℕ) → own n ≡ child_of m → n ≤ m → F (suc f) n ≡ default
    pub not-next : (f n b : ℕ) → own n ≡ next_of b → n ≤ at b → F (suc f) n ≡ default
    pub at-nobody : (f n : ℕ) → own n ≡ nobody → F (suc f) n ≡ default

  module _ {A : Type 0} (F : ℕ → ℕ → A) (root : ℕ → A) (child next : ℕ → A → A) (default : A) (C : Climbs F root child next default) where
    step-fuel : (f g n : ℕ) → ((k : ℕ) → k < n → F f k ≡ F g k) → (o : Owner) → own n ≡ o → F (suc f) n ≡ F (suc g) n
    step-fuel f g n ih (root_of d) e = C.at-root f n d e ∙ sym (C.at-root g n d e)
    step-fuel f g n ih (child_of m) e = go (dec_lt m n)
      where
        go : Dec (m < n) → F (suc f) n ≡ F (suc g) n
        go (yes l) = C.at-child f n m e l ∙ rw (ih m l) (sym (C.at-child g n m e l))
        go (no d) = C.not-child f n m e (omega arith) ∙ sym (C.not-child g n m e (omega arith))
    step-fuel f g n ih (next_of b) e = go (dec_lt (at b) n)
      where
        go : Dec (at b < n) → F (suc f) n ≡ F (suc g) n
        go (yes l) = C.at_next f n b e l ∙ rw (ih (at b) l) (sym (C.at_next g n b e l))
        go (no d) = C.not-next f n b e (omega arith) ∙ sym (C.not-next g n b e (omega arith))
    step-fuel f g n ih nobody e = C.at-nobody f n e ∙ sym (C.at-nobody g n e)

    -- more fuel than the node's number changes nothing
    pub fuel : (f g n : ℕ) → n < f → n < g → F f n ≡ F g n
    fuel zero g n a b = absurd (omega arith)
    fuel (suc f) zero n a b = absurd (omega arith)
    fuel (suc f) (suc g) n a b = step-fuel f g n (λ k l. fuel f g k (omega arith) (omega arith)) (own n) refl

    pub child-step : (n m : ℕ) → own n ≡ child_of m → m < n → F (suc n) n ≡ child m (F (suc m) m)
    child-step n m e l = C.at-child n n m e l ∙ rw (fuel n (suc m) m l (omega arith))

    pub next-step : (n b : ℕ) → own n ≡ next_of b → at b < n → F (suc n) n ≡ next b (F (suc (at b)) (at b))
    next-step n b e l = C.at_next n n b e l ∙ rw (fuel n (suc (at b)) (at b) l (omega arith))

-- two climbs that agree on the owners up to n, and on the homes of the branches among them, agree at n
module _ (own own' : ℕ → Owner) (at at' : ℕ → ℕ) {A : Type 0} (F G : ℕ → ℕ → A) (root : ℕ → A) (child next : ℕ → A → A) (default : A)
    (C : Climbs own at F root child next default) (D : Climbs own' at' G root child next default) (start : (n : ℕ) → F 0 n ≡ G 0 n) where
  -- the owners up to n, and their homes
  abbrev pub Agree : ℕ → Type 0
  Agree n = (k : ℕ) → k ≤ n → (own k ≡ own' k) × ((b : ℕ) → own k ≡ next_of b → at b ≡ at' b)

  step_same : (f n : ℕ) → Agree n → ((k : ℕ) → k < n → F f k ≡ G f k) → (o : Owner) → own n ≡ o → own' n ≡ o → F (suc f) n ≡ G (suc f) n
  step_same f n h ih (root_of d) e e' = C.at-root f n d e ∙ sym (D.at-root f n d e')
  step_same f n h ih (child_of m) e e' = go (dec_lt m n)
    where
      go : Dec (m < n) → F (suc f) n ≡ G (suc f) n
      go (yes l) = C.at-child f n m e l ∙ rw (ih m l) (sym (D.at-child f n m e' l))
      go (no d) = C.not-child f n m e (omega arith) ∙ sym (D.not-child f n m e' (omega arith))
  step_same f n h ih (next_of b) e e' = go (dec_lt (at b) n) ((h n (omega arith)).1 b e)
    where
      go : Dec (at b < n) → at b ≡ at' b → F (suc f) n ≡ G (suc f) n
      go (yes l) q = C.at_next f n b e l ∙ rw (ih (at b) l, q) (sym (D.at_next f n b e' (omega arith)))
      go (no d) q = C.not-next f n b e (omega arith) ∙ sym (D.not-next f n b e' (omega arith))
  step_same f n h ih nobody e e' = C.at-nobody f n e ∙ sym (D.at-nobody f n e')

  pub same : (f n : ℕ) → Agree n → F f n ≡ G f n
  same zero n h = start n
  same (suc f) n h =
      step_same f n h (λ k l. same f k (λ j i. h j (omega arith))) (own n) refl (sym (h n (omega arith)).0)

-- what a New, and a branch, add to the names held
abbrev pub with_child : List ℕ → ℕ → List ℕ → List ℕ
with_child w m xs = xs ++ (node_first w m ∷ [])

abbrev pub with_next : List ℕ → ℕ → List ℕ → List ℕ
with_next w b xs = xs ++ binds_of w b

module _ (w : List ℕ) (own : ℕ → Owner) (at : ℕ → ℕ) where
  -- ---- held names

  pub held-climbs : Climbs own at (held_names_by w own at) (formals w) (with_child w) (with_next w) []
  unfolding held_names_by
  held-climbs = record {
    at-root = λ f n d e. rw (e, held_names_by);
    at-child = λ f n m e l. rw (e, held_names_by, lt-ltb m n l, held_names_by);
    at_next = λ f n b e l. rw (e, held_names_by, lt-ltb (at b) n l, held_names_by);
    not-child = λ f n m e l. rw (e, held_names_by, le-ltb m n l, held_names_by);
    not-next = λ f n b e l. rw (e, held_names_by, le-ltb (at b) n l, held_names_by);
    at-nobody = λ f n e. rw (e, held_names_by);
  }

  pub held-fuel : (f g n : ℕ) → n < f → n < g → held_names_by w own at f n ≡ held_names_by w own at g n
  held-fuel = fuel own at (held_names_by w own at) (formals w) (with_child w) (with_next w) [] held-climbs

  pub held-root : (n d : ℕ) → own n ≡ root_of d → held_names_by w own at (suc n) n ≡ formals w d
  held-root n = held-climbs.at-root n n

  pub held-child : (n m : ℕ) → own n ≡ child_of m → m < n → held_names_by w own at (suc n) n ≡ held_names_by w own at (suc m) m ++ (node_first w m ∷ [])
  held-child = child-step own at (held_names_by w own at) (formals w) (with_child w) (with_next w) [] held-climbs

  pub held_next : (n b : ℕ) → own n ≡ next_of b → at b < n → held_names_by w own at (suc n) n ≡ held_names_by w own at (suc (at b)) (at b) ++ binds_of w b
  held_next = next-step own at (held_names_by w own at) (formals w) (with_child w) (with_next w) [] held-climbs

  pub held-child-not : (n m : ℕ) → own n ≡ child_of m → n ≤ m → held_names_by w own at (suc n) n ≡ []
  held-child-not n = held-climbs.not-child n n

  pub held-next-not : (n b : ℕ) → own n ≡ next_of b → n ≤ at b → held_names_by w own at (suc n) n ≡ []
  held-next-not n = held-climbs.not-next n n

  pub held-nobody : (n : ℕ) → own n ≡ nobody → held_names_by w own at (suc n) n ≡ []
  held-nobody n = held-climbs.at-nobody n n

  -- ---- definitions

  pub definition-climbs : Climbs own at (definition_by w own at) (λ d. d) (λ m d. d) (λ b d. d) 0
  unfolding definition_by
  definition-climbs = record {
    at-root = λ f n d e. rw (e, definition_by);
    at-child = λ f n m e l. rw (e, definition_by, lt-ltb m n l, definition_by);
    at_next = λ f n b e l. rw (e, definition_by, lt-ltb (at b) n l, definition_by);
    not-child = λ f n m e l. rw (e, definition_by, le-ltb m n l, definition_by);
    not-next = λ f n b e l. rw (e, definition_by, le-ltb (at b) n l, definition_by);
    at-nobody = λ f n e. rw (e, definition_by);
  }

  pub definition-fuel : (f g n : ℕ) → n < f → n < g → definition_by w own at f n ≡ definition_by w own at g n
  definition-fuel = fuel own at (definition_by w own at) (λ d. d) (λ m d. d) (λ b d. d) 0 definition-climbs

  pub definition-root : (n d : ℕ) → own n ≡ root_of d → definition_by w own at (suc n) n ≡ d
  definition-root n = definition-climbs.at-root n n

  pub definition-child : (n m : ℕ) → own n ≡ child_of m → m < n → definition_by w own at (suc n) n ≡ definition_by w own at (suc m) m
  definition-child = child-step own at (definition_by w own at) (λ d. d) (λ m d. d) (λ b d. d) 0 definition-climbs

  pub definition-next : (n b : ℕ) → own n ≡ next_of b → at b < n → definition_by w own at (suc n) n ≡ definition_by w own at (suc (at b)) (at b)
  definition-next = next-step own at (definition_by w own at) (λ d. d) (λ m d. d) (λ b d. d) 0 definition-climbs

  pub definition-child-not : (n m : ℕ) → own n ≡ child_of m → n ≤ m → definition_by w own at (suc n) n ≡ 0
  definition-child-not n = definition-climbs.not-child n n

  pub definition-next-not : (n b : ℕ) → own n ≡ next_of b → n ≤ at b → definition_by w own at (suc n) n ≡ 0
  definition-next-not n = definition-climbs.not-next n n

  pub definition-nobody : (n : ℕ) → own n ≡ nobody → definition_by w own at (suc n) n ≡ 0
  definition-nobody n = definition-climbs.at-nobody n n

-- ---- other owners and homes that agree with these

module _ (w : List ℕ) (own own' : ℕ → Owner) (at at' : ℕ → ℕ) where
  pub held_same : (f n : ℕ) → ((k : ℕ) → k ≤ n → (own k ≡ own' k) × ((b : ℕ) → own k ≡ next_of b → at b ≡ at' b))
      → held_names_by w own at f n ≡ held_names_by w own' at' f n
  unfolding held_names_by
  held_same =
      same own own' at at' (held_names_by w own at) (held_names_by w own' at') (formals w) (with_child w) (with_next w) []
      (held-climbs w own at) (held-climbs w own' at') (λ n. refl)

  pub definition-same : (f n : ℕ) → ((k : ℕ) → k ≤ n → (own k ≡ own' k) × ((b : ℕ) → own k ≡ next_of b → at b ≡ at' b))
      → definition_by w own at f n ≡ definition_by w own' at' f n
  unfolding definition_by
  definition-same =
      same own own' at at' (definition_by w own at) (definition_by w own' at') (λ d. d) (λ m d. d) (λ b d. d) 0
      (definition-climbs w own at) (definition-climbs w own' at') (λ n. refl)
