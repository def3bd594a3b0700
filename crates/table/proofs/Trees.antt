-- Cause 6: the nodes form trees. What a node holds and which definition it stands in come from its owner, and a claim about every node is
-- proved from the roots down.
use mathlib.Core.Path.{◌≡◌, refl}
use mathlib.Core.Bool.{true}
use mathlib.Core.List.{List, [], ◌∷◌, ◌++◌}
use Prim.Native.Nat.{ℕ, zero, suc, ◌≤◌, ◌<◌}
use native.Mathlib.Omega.{arith}
use Rattle.scheme.specs.Words.{definitions, nodes, branches, root, formals, node_first, node_second, is_new, next}
use Rattle.scheme.specs.Owners.{root_of, child_of, next_of, nobody, home, owner, held, definition, binds_of}
use Rattle.table.specs.Causes.{are_ranges_right, is_shape_right}
use Rattle.scheme.proofs.Climb
use Rattle.table.proofs.Inside
use Rattle.table.proofs.Owned
use Rattle.table.proofs.Owned.{BranchOf, Leads, by-root, by-new, by-branch}

-- ---- the step from a node to its owner, for the table's own owners and homes

module _ (w : List ℕ) where
  held-root : (n d : ℕ) → owner w n ≡ root_of d → held w n ≡ formals w d
  unfolding held
  held-root n d e = Climb.held-root w (owner w) (home w) n d e

  held-child : (n m : ℕ) → owner w n ≡ child_of m → m < n → held w n ≡ held w m ++ (node_first w m ∷ [])
  unfolding held
  held-child n m e l = Climb.held-child w (owner w) (home w) n m e l

  held_next : (n b m : ℕ) → owner w n ≡ next_of b → home w b ≡ m → m < n → held w n ≡ held w m ++ binds_of w b
  unfolding held
  held_next n b m e h l = rw (← h) (Climb.held_next w (owner w) (home w) n b e (rw h l))

  held-nobody : (n : ℕ) → owner w n ≡ nobody → held w n ≡ []
  unfolding held
  held-nobody n e = Climb.held-nobody w (owner w) (home w) n e

  definition-root : (n d : ℕ) → owner w n ≡ root_of d → definition w n ≡ d
  unfolding definition
  definition-root n d e = Climb.definition-root w (owner w) (home w) n d e

  definition-child : (n m : ℕ) → owner w n ≡ child_of m → m < n → definition w n ≡ definition w m
  unfolding definition
  definition-child n m e l = Climb.definition-child w (owner w) (home w) n m e l

  definition-next : (n b m : ℕ) → owner w n ≡ next_of b → home w b ≡ m → m < n → definition w n ≡ definition w m
  unfolding definition
  definition-next n b m e h l = rw (← h) (Climb.definition-next w (owner w) (home w) n b e (rw h l))

  definition-nobody : (n : ℕ) → owner w n ≡ nobody → definition w n ≡ 0
  unfolding definition
  definition-nobody n e = Climb.definition-nobody w (owner w) (home w) n e

module _ (w : List ℕ) (r : are_ranges_right w ≡ true) (h : is_shape_right w ≡ true) where
  -- ---- what leads to a node

  pub branch-inside : (n b : ℕ) → BranchOf w n b → b < branches w
  branch-inside n b c = omega (arith, Inside.choice-inside w r n c.inside c.choice, c.high)

  pub root-owner : (d : ℕ) → d < definitions w → owner w (root w d) ≡ root_of d
  root-owner d l = Owned.owner-root w h (root w d) d (Inside.root-inside w r d l) l refl

  pub child-owner : (n : ℕ) → n < nodes w → is_new w n ≡ true → owner w (node_second w n) ≡ child_of n
  child-owner n l k = Owned.owner-child w h (node_second w n) n (Inside.new-inside w r n l k).1 l k refl

  pub next-owner : (b : ℕ) → b < branches w → owner w (next w b) ≡ next_of b
  next-owner b l = Owned.owner-next w h (next w b) b (Inside.next-inside w r b l) l refl

  -- ---- held names

  pub root-held : (d : ℕ) → d < definitions w → held w (root w d) ≡ formals w d
  root-held d l = held-root w (root w d) d (root-owner d l)

  pub new-held : (n : ℕ) → n < nodes w → is_new w n ≡ true → held w (node_second w n) ≡ held w n ++ (node_first w n ∷ [])
  new-held n l k = held-child w (node_second w n) n (child-owner n l k) (Owned.child-above w h n l k)

  pub next-held : (n b : ℕ) → BranchOf w n b → held w (next w b) ≡ held w n ++ binds_of w b
  next-held n b c = held_next w (next w b) b n (next-owner b (branch-inside n b c)) (Owned.home-is w h n b c) (Owned.next-above w h n b c)

  pub outside-held : (n : ℕ) → nodes w ≤ n → held w n ≡ []
  outside-held n l = held-nobody w n (Owned.owner-nobody w r n l)

  -- ---- definitions

  pub root-definition : (d : ℕ) → d < definitions w → definition w (root w d) ≡ d
  root-definition d l = definition-root w (root w d) d (root-owner d l)

  pub new-definition : (n : ℕ) → n < nodes w → is_new w n ≡ true → definition w (node_second w n) ≡ definition w n
  new-definition n l k = definition-child w (node_second w n) n (child-owner n l k) (Owned.child-above w h n l k)

  pub next-definition : (n b : ℕ) → BranchOf w n b → definition w (next w b) ≡ definition w n
  next-definition n b c = definition-next w (next w b) b n (next-owner b (branch-inside n b c)) (Owned.home-is w h n b c) (Owned.next-above w h n b c)

  pub outside-definition : (n : ℕ) → nodes w ≤ n → definition w n ≡ 0
  outside-definition n l = definition-nobody w n (Owned.owner-nobody w r n l)

  -- ---- from the roots down

  module _ (P : ℕ → Type 0) (at-root : (d : ℕ) → d < definitions w → P (root w d))
      (at_new : (n : ℕ) → n < nodes w → is_new w n ≡ true → P n → P (node_second w n)) (at_next : (n b : ℕ) → BranchOf w n b → P n → P (next w b)) where
    down : (f k : ℕ) → k < f → k < nodes w → P k
    down zero k u l = absurd (omega arith)
    down (suc f) k u l = go (Owned.leads w h k l) (λ m v i. down f m v i)
      where
        go : Leads w k → ((m : ℕ) → m < f → m < nodes w → P m) → P k
        go (by-root d i e) ih = rw (← e) (at-root d i)
        go (by-new n i c e) ih = rw (← e) (at_new n i c (ih n (omega (arith, Owned.child-above w h n i c)) i))
        go (by-branch b i e) ih =
            let c = Owned.home-has w h b i in
            rw (← e) (at_next (home w b) b c (ih (home w b) (omega (arith, Owned.next-above w h (home w b) b c)) c.inside))

    pub every-node : (k : ℕ) → k < nodes w → P k
    every-node k l = down (suc k) k (omega arith) l
