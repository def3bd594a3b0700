-- Counting held names: how many numbers pass a test, and the most names that a node and that each thread hold.
use Rattle.std.specs.Prelude.{◌≡◌, ℕ, zero, suc, ◌+◌, ◌<◌, ◌≤◌, Bool, List, length, replicate}
use Rattle.lists.specs.Lists.{bit, word}
use Rattle.scheme.specs.Scheme.{Scheme, Node, stop, choice, new, call}
use Rattle.places.specs.Held.{most_held}

-- how many of the n numbers from lo pass a test
unfoldable pub count : (ℕ → Bool) → ℕ → ℕ → ℕ
count f lo zero = 0
count f lo (suc n) = bit (f (lo + n)) + count f lo n

module _ (S : Scheme) where
  -- the most names that a node's control places hold, or the first one of the root that it calls
  abbrev pub held_most_at : ℕ → Node → ℕ
  held_most_at n stop = length (S.held n)
  held_most_at n (choice f c) = length (S.held n)
  held_most_at n (new r l) = length (S.held n)
  held_most_at n (call d) = length (S.formals d) + length (S.held n)

  unfoldable pub held_most : ℕ → ℕ
  held_most n = held_most_at n (S.node n)

-- a word for each node below n: how many names it holds
pub record HeldBelow (S : Scheme) (n : ℕ) (counts : List ℕ) : Type 0 where
  pub room : 256 ≤ length counts
  pub told : (m : ℕ) → m < n → word counts m ≡ length (S.held m)

-- a word for each of eight threads: nothing so far; the most that a control place of the thread holds
abbrev pub NoneHeld : List ℕ → Type 0
NoneHeld most = most ≡ replicate 8 0

abbrev pub MostsHeld : Scheme → List ℕ → Type 0
MostsHeld S most = (t : ℕ) → t < 8 → word most t ≡ most_held S t
