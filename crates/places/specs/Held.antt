-- The names held at a control place (document 01, Transitions), and N (document 02, Item 3).
use Rattle.std.specs.Prelude.{ℕ, suc, ◌-◌, List, [], ◌∷◌, ◌++◌, map, length, take, drop, nat_lt}
use Rattle.lists.specs.Lists.{pick, same, from, range, some, keep, flat, total}
use Rattle.scheme.specs.Scheme.{Scheme, Node, stop, choice, new, call}
use Rattle.places.specs.Places.{controls}

-- the largest of a list, 0 of none
unfoldable pub largest : List ℕ → ℕ
largest [] = 0
largest (x ∷ xs) = pick (nat_lt x (largest xs)) (largest xs) x

module _ (S : Scheme) where
  -- "In a call's chain the held names are the copied formals and the unreleased caller's names". "In a Stop's chain the unreleased names are held".
  -- "a Call's own place stands for the Call node"
  abbrev pub names_at : Node → ℕ → ℕ → List ℕ
  names_at stop n k = drop k (S.held n)
  names_at (choice f c) n k = S.held n
  names_at (new r l) n k = S.held n
  names_at (call d) n k = take (k - 1) (S.formals d) ++ drop (k - suc (length (S.formals d))) (S.held n)

  -- the numbers of names held at the control places of a node
  unfoldable pub held_counts : ℕ → List ℕ
  held_counts n = map (λ k. length (names_at (S.node n) n k)) (range (controls S n))

  -- "the largest number of names held at any one of the thread's control places, chain places included", of every definition, called or not
  unfoldable pub most_held : ℕ → ℕ
  most_held t = largest (flat held_counts (keep (λ n. same (S.thread n) t) (range S.nodes)))

  -- N. "With no restricted names N is now 0. Otherwise N is the sum, over threads"
  unfoldable pub private_count : ℕ
  private_count = pick (some S.restricted (from S.publics S.bounds)) (total (map most_held (range S.threads))) 0
