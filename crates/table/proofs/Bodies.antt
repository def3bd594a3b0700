-- Laws of the scope check: what the tallied names tell, one step into a body, and that checking all bodies is checking all nodes.
use mathlib.Core.Path.{◌≡◌, refl, sym, ap, ◌∙◌}
use mathlib.Core.Bool.{Bool, true, false, not, ◌&&◌, ◌||◌}
use mathlib.Core.List.{List, [], ◌∷◌, ◌++◌, append_assoc}
use mathlib.Core.Logic.{◌⊎◌, inl, inr}
use Prim.Native.Nat.{ℕ, zero, suc, ◌+◌, ◌-◌, ◌≤◌, ◌<◌}
use native.Mathlib.Omega.{arith}
use lib.Dec.{ltb}
use lib.ListN.{replicate}
use borrow.Author.Tests.{lt-ltb, ltb-true}
use Rattle.lists.specs.Lists.{pick, same, word, from, range, every, member, times}
use Rattle.lists.proofs.Tests.{true-or-false, both_ways, and_intro, and_left, and_right, same-yes, same-no, pick_same}
use Rattle.lists.proofs.Ranges.{member-from, from_member, every-same, every-member, member-every, every-below, below-every}
use Rattle.lists.proofs.Members.{member-append}
use Rattle.lists.proofs.Counts.{times_none, member-times}
use Rattle.scheme.specs.Words.{publics, definitions, nodes, root, first_formal, formal_count, formals, node_second, is_new, is_call_node, branches_of, next, arguments_of}
use Rattle.scheme.specs.Owners.{held}
use Rattle.table.specs.Causes.{usable, is_branch_scoped, is_node_scoped, is_scope_right}
use Rattle.scheme.specs.Spans.{tallied, tally_all}
use Rattle.table.specs.Inner.Shaped.{Shaped, BranchOf, Reached, from-root, from-new, from-branch}
use Rattle.table.specs.Inner.Scope.{held_tally, body_fuel, body_scoped, branch_body_scoped}
use Rattle.scheme.proofs.Tally.{tally-none, tally-append, tally-one-more}
use Rattle.table.proofs.Inside.{new-not-choice, call-not-new, choice-not-new, choice-not-call}
use Rattle.table.proofs.Owned.{in-branches, branches-in}

-- ---- the tallied names

-- a count of 0 says that a number is not there
none-member : (x : ℕ) (xs : List ℕ) → same (times x xs) 0 ≡ not (member x xs)
none-member x xs = go (true-or-false (member x xs))
  where
    go : (member x xs ≡ true) ⊎ (member x xs ≡ false) → same (times x xs) 0 ≡ not (member x xs)
    go (inl m) = rw m (same-no (times x xs) 0 (λ e. omega (arith, member-times x xs m)))
    go (inr m) = rw m (same-yes (times x xs) 0 (times_none x xs m))

module _ (w : List ℕ) (n : ℕ) where
  public-or-held : (x : ℕ) → member x (range (publics w) ++ held w n) ≡ usable w n x
  unfolding usable
  public-or-held x =
      member-append x (range (publics w)) (held w n) ∙
      ap (λ (b : Bool). b || member x (held w n))
      (both_ways (member x (range (publics w))) (ltb x (publics w))
      (λ m. lt-ltb x (publics w) (omega (arith, (from_member x 0 (publics w) m).1)))
      (λ l. member-from x 0 (publics w) (omega arith) (omega (arith, ltb-true x (publics w) l))))

  pub held_none : (x : ℕ) → x < 64 → same (word (held_tally w n) x) 0 ≡ not (usable w n x)
  unfolding held_tally
  held_none x h =
      tally-none 64 (range (publics w) ++ held w n) x h ∙
      (none-member x (range (publics w) ++ held w n) ∙ ap not (public-or-held x))

  pub held_some : (x : ℕ) → x < 64 → not (same (word (held_tally w n) x) 0) ≡ usable w n x
  held_some x h = ap not (held_none x h) ∙ twice (usable w n x)
    where
      twice : (b : Bool) → not (not b) ≡ b
      twice true = refl
      twice false = refl

  pub not-held : (x : ℕ) → x < 64 → word (held_tally w n) x ≡ 0 → usable w n x ≡ false
  not-held x h e = go (usable w n x) (sym (held_none x h) ∙ same-yes _ _ e)
    where
      go : (b : Bool) → not b ≡ true → b ≡ false
      go true q = sym q
      go false q = refl

  pub is_held : (x : ℕ) → x < 64 → (word (held_tally w n) x ≡ 0 → ⊥) → usable w n x ≡ true
  is_held x h e = go (usable w n x) (sym (held_none x h) ∙ same-no _ _ e)
    where
      go : (b : Bool) → not b ≡ false → b ≡ true
      go true q = refl
      go false q = sym q

-- one more name is held below, or the same names
pub tally-below : (w : List ℕ) (n l y : ℕ) → held w l ≡ held w n ++ (y ∷ []) → tallied (held_tally w n) y ≡ held_tally w l
unfolding held_tally
tally-below w n l y e =
    sym (rw (e, ← append_assoc (range (publics w)) (held w n) (y ∷ [])) (tally-one-more (replicate 64 0) (range (publics w) ++ held w n) y))

pub tally-same : (w : List ℕ) (n l : ℕ) → held w l ≡ held w n → held_tally w n ≡ held_tally w l
unfolding held_tally
tally-same w n l e = rw e

-- the publics, then the formals of a definition
pub tally-root : (w : List ℕ) (n : ℕ) (fs : List ℕ) → held w n ≡ fs → tally_all (tally_all (replicate 64 0) (range (publics w))) fs ≡ held_tally w n
unfolding held_tally
tally-root w n fs e = rw e (sym (tally-append (replicate 64 0) (range (publics w)) fs))

-- ---- one step into a body

module _ (w : List ℕ) (S : Shaped w) where
  next_of : (n b : ℕ) → BranchOf w n b → (n < next w b) × (next w b < nodes w)
  next_of n b c = S.next-inside n b c.inside c.choice c.low c.high

  -- what is asked of a node, with a test of the nodes below
  abbrev Asked : (ℕ → Bool) → ℕ → Bool
  Asked below n =
      pick (is_new w n) (below (node_second w n))
      (pick (is_call_node w n) (every (usable w n) (arguments_of w n)) (every (λ b. is_branch_scoped w n b && below (next w b)) (branches_of w n)))

  asked-same : (p q : ℕ → Bool) (n : ℕ) → n < nodes w → ((l : ℕ) → n < l → l < nodes w → p l ≡ q l) → Asked p n ≡ Asked q n
  asked-same p q n i h =
      pick_same (is_new w n) _ _ _ _ (λ e. let r = S.new-inside n i e in h (node_second w n) r.0 r.1)
      (λ e. ap (λ (b : Bool). pick (is_call_node w n) (every (usable w n) (arguments_of w n)) b)
      (every-same (λ b. is_branch_scoped w n b && p (next w b)) (λ b. is_branch_scoped w n b && q (next w b)) (branches_of w n)
      (λ b m. let r = next_of n b (branches-in w n b i m) in ap (λ (t : Bool). is_branch_scoped w n b && t) (h (next w b) r.0 r.1))))

  -- fuel that reaches the last node is enough
  body-fuel : (f g n : ℕ) → n < nodes w → nodes w ≤ n + f → nodes w ≤ n + g → body_fuel w f n ≡ body_fuel w g n
  unfolding body_fuel
  body-fuel zero g n i a b = absurd (omega arith)
  body-fuel (suc f) zero n i a b = absurd (omega arith)
  body-fuel (suc f) (suc g) n i a b = asked-same (body_fuel w f) (body_fuel w g) n i (λ l u v. body-fuel f g l v (omega arith) (omega arith))

  pub body-step : (n : ℕ) → n < nodes w → body_scoped w n ≡ Asked (body_scoped w) n
  unfolding body_fuel body_scoped
  body-step n i =
      let k = nodes w - (n + 1) in
      let e : nodes w - n ≡ suc k = omega arith in
      rw e (asked-same (body_fuel w k) (λ l. body_fuel w (nodes w - l) l) n i (λ l u v. body-fuel k (nodes w - l) l v (omega arith) (omega arith)))

  pub body_new : (n : ℕ) → n < nodes w → is_new w n ≡ true → body_scoped w n ≡ body_scoped w (node_second w n)
  body_new n i e = body-step n i ∙ rw e

  pub body_call : (n : ℕ) → n < nodes w → is_call_node w n ≡ true → body_scoped w n ≡ every (usable w n) (arguments_of w n)
  body_call n i e = body-step n i ∙ rw (call-not-new w n e, e)

  pub body-choice : (n : ℕ) → n < nodes w → is_new w n ≡ false → is_call_node w n ≡ false → body_scoped w n ≡ every (branch_body_scoped w n) (branches_of w n)
  body-choice n i e f = body-step n i ∙ rw (e, f)

  -- ---- all bodies are all nodes

  -- a node of a body that is right is right, and so are the nodes below it
  node-right : (n : ℕ) → n < nodes w → body_scoped w n ≡ true → is_node_scoped w n ≡ true
  unfolding is_node_scoped branches_of every
  node-right n i h = go (true-or-false (is_new w n)) (true-or-false (is_call_node w n))
    where
      go : (is_new w n ≡ true) ⊎ (is_new w n ≡ false) → (is_call_node w n ≡ true) ⊎ (is_call_node w n ≡ false)
          → pick (is_call_node w n) (every (usable w n) (arguments_of w n)) (every (is_branch_scoped w n) (branches_of w n)) ≡ true
      go a (inl c) = rw c (sym (body_call n i c) ∙ h)
      go (inl a) (inr c) = rw (c, new-not-choice w n a)
      go (inr a) (inr c) =
          rw c
          (member-every (is_branch_scoped w n) (branches_of w n)
          (λ b m. and_left (is_branch_scoped w n b) (body_scoped w (next w b)) (every-member (branch_body_scoped w n) (branches_of w n) (sym (body-choice n i a c) ∙ h) b m)))

  below_new : (n : ℕ) → n < nodes w → is_new w n ≡ true → body_scoped w n ≡ true → body_scoped w (node_second w n) ≡ true
  below_new n i e h = sym (body_new n i e) ∙ h

  below-branch : (n b : ℕ) → BranchOf w n b → body_scoped w n ≡ true → body_scoped w (next w b) ≡ true
  below-branch n b c h =
      and_right (is_branch_scoped w n b) (body_scoped w (next w b))
      (every-member (branch_body_scoped w n) (branches_of w n)
      (sym (body-choice n c.inside (choice-not-new w n c.choice) (choice-not-call w n c.choice)) ∙ h) b
      (in-branches w n b c.choice c.low c.high))

  -- from the roots down to every node
  all_right : every (λ d. body_scoped w (root w d)) (range (definitions w)) ≡ true → (f k : ℕ) → k < f → k < nodes w → body_scoped w k ≡ true
  all_right h zero k u i = absurd (omega arith)
  all_right h (suc f) k u i = go (S.reached k i) (λ m v. all_right h f m v)
    where
      go : Reached w k → ((m : ℕ) → m < f → m < nodes w → body_scoped w m ≡ true) → body_scoped w k ≡ true
      go (from-root d a e) ih = rw (← e) (every-below (λ x. body_scoped w (root w x)) (definitions w) h d a)
      go (from-new n a c e) ih = rw (← e) (below_new n (omega arith) c (ih n (omega arith) (omega arith)))
      go (from-branch n b a c l v e) ih =
          rw (← e) (below-branch n b (record { inside = omega arith; choice = c; low = l; high = v }) (ih n (omega arith) (omega arith)))

  -- nodes that are right make bodies that are
  body-right : ((n : ℕ) → n < nodes w → is_node_scoped w n ≡ true) → (f n : ℕ) → n < nodes w → body_fuel w f n ≡ true
  unfolding body_fuel is_node_scoped
  body-right h zero n i = refl
  body-right h (suc f) n i = go (true-or-false (is_new w n)) (true-or-false (is_call_node w n)) (λ l v. body-right h f l v)
    where
      go : (is_new w n ≡ true) ⊎ (is_new w n ≡ false) → (is_call_node w n ≡ true) ⊎ (is_call_node w n ≡ false) → ((l : ℕ) → l < nodes w → body_fuel w f l ≡ true)
          → Asked (body_fuel w f) n ≡ true
      go (inl a) c ih = rw a (ih (node_second w n) (S.new-inside n i a).1)
      go (inr a) (inl c) ih = rw (a, c) (rw c at (h n i))
      go (inr a) (inr c) ih =
          rw (a, c)
          (member-every (λ b. is_branch_scoped w n b && body_fuel w f (next w b)) (branches_of w n)
          (λ b m. and_intro (is_branch_scoped w n b) (body_fuel w f (next w b)) (every-member (is_branch_scoped w n) (branches_of w n) (rw c at (h n i)) b m)
          (ih (next w b) (next_of n b (branches-in w n b i m)).1)))

  pub scope-bodies : every (λ d. body_scoped w (root w d)) (range (definitions w)) ≡ is_scope_right w
  unfolding is_scope_right body_scoped
  scope-bodies =
      both_ways (every (λ d. body_scoped w (root w d)) (range (definitions w))) (is_scope_right w)
      (λ h. below-every (is_node_scoped w) (nodes w) (λ n i. node-right n i (all_right h (suc n) n (omega arith) i)))
      (λ h. below-every (λ d. body_scoped w (root w d)) (definitions w)
      (λ d i. body-right (every-below (is_node_scoped w) (nodes w) h) (nodes w - root w d) (root w d) (S.root-inside d i)))

  -- ---- what the code has tallied at a root

  pub root-tally : (d p f k : ℕ) (h₁ h₂ : List ℕ) → d < definitions w → p ≡ publics w → f ≡ first_formal w d → k ≡ formal_count w d
      → h₁ ≡ tally_all (replicate 64 0) (from 0 (p - 0)) → h₂ ≡ tally_all h₁ (from f (f + k - f)) → h₂ ≡ held_tally w (root w d)
  unfolding formals
  root-tally d p f k h₁ h₂ i a b e q₁ q₂ =
      let z : p - 0 ≡ p = omega arith in
      let y : f + k - f ≡ k = omega arith in
      q₂ ∙ rw (y, q₁, z, a, b, e) (tally-root w (root w d) (formals w d) (S.root-held d i))
