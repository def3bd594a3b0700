-- What the index of an accepted table tells is its scheme's, at every number.
use mathlib.Core.Path.{◌≡◌, sym, ap, ◌∙◌}
use mathlib.Core.Bool.{true, false}
use mathlib.Core.List.{List, []}
use mathlib.Core.Logic.{◌⊎◌, inl, inr}
use Prim.Native.Nat.{ℕ, ◌≤◌, ◌<◌}
use native.Mathlib.Decide.{dec_lt}
use native.Mathlib.Omega.{arith}
use Rattle.lists.specs.Lists.{pick, word, from, member}
use Rattle.lists.proofs.Tests.{true-or-false, not-true-false}
use Rattle.lists.proofs.Ranges.{from_member}
use Rattle.lists.proofs.First.{first-none}
use Rattle.lists.proofs.Members.{member-nil}
use Rattle.scheme.specs.Words.{Number, nodes, branches, definitions, names, branches_of, is_choice, node_first, node_second}
use Rattle.scheme.specs.Owners.{home, definition}
use Rattle.scheme.specs.Scheme.{scheme, binder_of}
use Rattle.scheme.specs.Index.{binder_number, homes_in, definitions_in, binders_in, held_at, thread_at, branch_thread_at, name_thread_at, IsIndex}
use Rattle.scheme.proofs.Joined.{home-told, binder-told, definition-told, held-told, past-homes, past-binders, past-nodes, has-bodies}
use Rattle.table.specs.Causes.{cause}
use Rattle.table.specs.Known.{Known}
use Rattle.table.proofs.Accepted.{accepted}
use Rattle.table.proofs.Passed.{passed}
use Rattle.table.proofs.Inside
use Rattle.table.proofs.Trees
use Rattle.table.proofs.Binders.{outside-unbound}
use Rattle.table.proofs.NameThreads.{name-thread-in}

module _ (w : List ℕ) (ok : cause w ≡ 0) where
  few : (nodes w ≤ 256) × (branches w ≤ 256) × (definitions w ≤ 32)
  unfolding scheme
  few = let A = accepted w ok in (A.few-nodes, A.few-branches, A.few-definitions)

  few-names : names w ≤ 64
  unfolding scheme
  few-names = omega (arith, (accepted w ok).few-publics, (accepted w ok).few-bounds)

  -- a branch that the table does not have is no node's
  home-outside : (b : ℕ) → branches w ≤ b → home w b ≡ 0
  unfolding home branches_of
  home-outside b l =
      first-none (λ n. member b (branches_of w n)) 0 (nodes w) 0
      (λ n u k. not-true-false (member b (branches_of w n)) (λ m. none-there n (omega arith) (true-or-false (is_choice w n)) m))
    where
      none-there : (n : ℕ) → n < nodes w → (is_choice w n ≡ true) ⊎ (is_choice w n ≡ false)
          → member b (pick (is_choice w n) (from (node_first w n) (node_second w n)) []) ≡ true → ⊥
      none-there n u (inl c) m =
          let i = Inside.choice-inside w (passed w ok).ranges n u c in
          let j = from_member b (node_first w n) (node_second w n) (rw c at m) in
          omega arith
      none-there n u (inr c) m = member-nil b (rw c at m)

  module _ (x : List ℕ) (I : IsIndex w x) where
    home-word : (b : ℕ) → word (homes_in x) b ≡ home w b
    home-word b = go (dec_lt b 256)
      where
        go : Dec (b < 256) → word (homes_in x) b ≡ home w b
        go (yes l) = home-told w x (has-bodies w x I) b l
        go (no k) = past-homes w x (has-bodies w x I) b (omega arith) ∙ sym (home-outside b (omega (arith, few.1)))

    definition-word : (n : ℕ) → word (definitions_in x) n ≡ definition w n
    definition-word n = go (dec_lt n (nodes w))
      where
        go : Dec (n < nodes w) → word (definitions_in x) n ≡ definition w n
        go (yes l) = definition-told w x (has-bodies w x I) few.0 few.1 (omega (arith, few.2)) n l
        go (no k) =
            past-nodes w x (has-bodies w x I) n (omega arith) ∙ sym (Trees.outside-definition w (passed w ok).ranges (passed w ok).shape n (omega arith))

    -- nothing binds a name that the table does not have
    binder-word : (y : ℕ) → word (binders_in x) y ≡ binder_number (binder_of w y)
    binder-word y = go (dec_lt y 64)
      where
        go : Dec (y < 64) → word (binders_in x) y ≡ binder_number (binder_of w y)
        go (yes l) = binder-told w x I y l
        go (no k) =
            past-binders w x I y (omega arith)
            ∙ sym (ap binder_number (outside-unbound w (passed w ok).ranges (passed w ok).binding y (inr (omega (arith, few-names)))))

    pub home-right : (b : ℕ) → word (homes_in x) b ≡ (scheme w).home b
    unfolding scheme
    home-right b = home-word b

    pub definition-right : (n : ℕ) → word (definitions_in x) n ≡ (scheme w).definition n
    unfolding scheme
    definition-right n = definition-word n

    pub binder-right : (y : ℕ) → word (binders_in x) y ≡ binder_number ((scheme w).binder y)
    unfolding scheme
    binder-right y = binder-word y

    pub thread-right : (n : ℕ) → thread_at w x n ≡ (scheme w).thread n
    unfolding scheme
    thread-right n = rw (definition-word n)

    pub branch-thread-right : (b : ℕ) → branch_thread_at w x b ≡ (scheme w).thread ((scheme w).home b)
    branch-thread-right b = rw (home-right b) (thread-right ((scheme w).home b))

    pub name-thread-right : (y : ℕ) → name_thread_at w x y ≡ (scheme w).thread_of_name y
    name-thread-right y = rw (binder-word y) (name-thread-in w (homes_in x) (definitions_in x) ok (λ b h. home-word b) (λ n h. definition-word n) y)

    pub held-right : (n : ℕ) → n < nodes w → held_at w x n ≡ (scheme w).held n
    unfolding scheme
    held-right n h = held-told w x (has-bodies w x I) few.0 few.1 (omega (arith, few.2)) n h

-- the same of a table with its index
module _ (w index : List ℕ) (K : Known w index) where
  pub home_same : (b r : ℕ) → r ≡ word (homes_in index) b → r ≡ (scheme w).home b
  home_same b r e = e ∙ home-right w K.accepted index K.right b

  pub thread-same : (n r : ℕ) → Number (thread_at w index n) r → Number ((scheme w).thread n) r
  thread-same n r N = record { is = N.is ∙ thread-right w K.accepted index K.right n; small = N.small }

  pub branch-thread-same : (b r : ℕ) → Number (branch_thread_at w index b) r → Number ((scheme w).thread ((scheme w).home b)) r
  branch-thread-same b r N = record { is = N.is ∙ branch-thread-right w K.accepted index K.right b; small = N.small }

  pub name-thread-same : (x r : ℕ) → Number (name_thread_at w index x) r → r ≡ (scheme w).thread_of_name x
  name-thread-same x r N = N.is ∙ name-thread-right w K.accepted index K.right x
