-- Facts of an accepted table in the forms that the proof of demand 3 uses: for a silent branch, a send and a receive apart, and for called definitions.
use Prim.Native.Nat.{ℕ, ◌+◌, ◌≤◌, ◌<◌}
use mathlib.Core.Path.{◌≡◌}
use mathlib.Core.Logic.{◌⊎◌, inl, inr}
use mathlib.Core.Bool.{true}
use mathlib.Core.List.{[], ◌∷◌, ◌++◌, append-nil}
use native.Mathlib.Decide.{dec_le}
use native.Mathlib.Omega.{arith}
use Rattle.lists.specs.Lists.{member}
use Rattle.scheme.specs.Scheme.{Scheme, choice, call, silent, send, receive, present}
use Rattle.table.specs.Accepted.{NameOf, Usable, Chosen, Accepted}

module _ (S : Scheme) (A : Accepted S) where
  -- ---- branches

  pub chosen : (b : ℕ) → present (S.branch b) ≡ true → Chosen S (S.home b) b
  chosen b p = A.home-choice b (A.branch-inside b p)

  module _ (b l : ℕ) (h : S.branch b ≡ silent l) where
    pub silent-present : present (S.branch b) ≡ true
    silent-present = rw h

    pub silent-node : S.node (S.home b) ≡ choice (chosen b silent-present).first (chosen b silent-present).count
    silent-node = (chosen b silent-present).at

    pub silent-inside : l < S.nodes
    silent-inside = rw h at (A.next-inside b silent-present)

    pub silent-held : S.held l ≡ S.held (S.home b)
    silent-held = rw (h, append-nil) at (A.next-held b silent-present)

    pub silent-thread : S.thread l ≡ S.thread (S.home b)
    silent-thread = rw h at (A.next-thread b silent-present)

  module _ (b a z l : ℕ) (h : S.branch b ≡ send a z l) where
    pub send-present : present (S.branch b) ≡ true
    send-present = rw h

    pub send-node : S.node (S.home b) ≡ choice (chosen b send-present).first (chosen b send-present).count
    send-node = (chosen b send-present).at

    pub send-inside : l < S.nodes
    send-inside = rw h at (A.next-inside b send-present)

    pub send-held : S.held l ≡ S.held (S.home b)
    send-held = rw (h, append-nil) at (A.next-held b send-present)

    pub send-thread : S.thread l ≡ S.thread (S.home b)
    send-thread = rw h at (A.next-thread b send-present)

  module _ (b a y l : ℕ) (h : S.branch b ≡ receive a y l) where
    pub receive-present : present (S.branch b) ≡ true
    receive-present = rw h

    pub receive-node : S.node (S.home b) ≡ choice (chosen b receive-present).first (chosen b receive-present).count
    receive-node = (chosen b receive-present).at

    pub receive_inside : l < S.nodes
    receive_inside = rw h at (A.next-inside b receive-present)

    pub receive-held : S.held l ≡ S.held (S.home b) ++ (y ∷ [])
    receive-held = rw h at (A.next-held b receive-present)

    pub receive-thread : S.thread l ≡ S.thread (S.home b)
    receive-thread = rw h at (A.next-thread b receive-present)

  -- ---- calls

  module _ (n d : ℕ) (h : S.node n ≡ call d) where
    pub root-inside : S.root d < S.nodes
    root-inside = A.root-inside d (A.call-inside n d h).1

    pub root-held : S.held (S.root d) ≡ S.formals d
    root-held = A.root-held d (A.call-inside n d h).1

    pub formal-name : (x : ℕ) → member x (S.formals d) ≡ true → NameOf S (S.thread n) x
    formal-name x m = rw (A.call-thread n d h) at (A.formal-name d x m)

  -- ---- names

  -- public names, and numbers past the names, are of no thread
  pub no-thread : (x : ℕ) → (x < S.publics) ⊎ (S.publics + S.bounds ≤ x) → S.threads ≤ S.thread_of_name x
  no-thread x h = rw (A.no-thread x h) (omega arith)

  -- a name of a node's thread is bound
  pub bound_of : (n x : ℕ) → S.thread_of_name x ≡ S.thread n → S.publics ≤ x
  bound_of n x o = go (dec_le S.publics x)
    where
      go : Dec (S.publics ≤ x) → S.publics ≤ x
      go (yes l) = l
      go (no k) =
          let a : S.threads ≤ S.thread_of_name x
          = no-thread x (inl (omega arith)) in let b : S.thread n < S.threads = A.thread-inside n in absurd (omega arith)

  -- a usable name is public or of the node's thread
  pub usable-own : (n x : ℕ) → Usable S n x → (x < S.publics) ⊎ (S.thread_of_name x ≡ S.thread n)
  usable-own n x (inl p) = inl p
  usable-own n x (inr m) = inr (A.held-name n x m).of
