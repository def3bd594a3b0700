-- Configurations: where each thread stands in the net and which value each name has, the names held there, and the state that a configuration shows
-- (document 01, Transitions, last paragraph).
use Rattle.std.specs.Prelude.{Bool, List, ℕ, zero, suc, ◌+◌, ltb, leb, length, take, drop}
use Rattle.std.proofs.Math.Option.{Option, none, some}
use Rattle.lists.specs.Lists.{pick, same, member}
use Rattle.scheme.specs.Scheme.{Scheme, Node, stop, choice, new, call}
use Rattle.scheme.specs.Kinds.{is_stop_node}
use Rattle.process.specs.States.{State, value_of}
use Rattle.process.specs.Steps.{passed}
use Rattle.places.specs.Held.{names_at}

-- control place k of a node
pub record Spot : Type 0 where
  pub node : ℕ
  pub index : ℕ

abbrev pub spot : ℕ → ℕ → Spot
spot n k = record { node = n; index = k }

pub record Configuration : Type 0 where
  pub at : ℕ → Spot
  pub value : ℕ → Option ℕ

module _ (S : Scheme) where
  -- the names held at a spot
  abbrev pub held_at : Node → Spot → List ℕ
  held_at ν p = names_at S ν p.node p.index

  abbrev pub held_here : Spot → List ℕ
  held_here p = held_at (S.node p.node) p

  -- a place of the node's own
  abbrev pub is_spot : Node → Spot → Bool
  is_spot stop p = leb p.index (length (S.held p.node))
  is_spot (choice f c) p = same p.index 0
  is_spot (new r l) p = same p.index 0
  is_spot (call d) p = leb p.index (length (S.formals d) + length (S.held p.node))

  -- the node of the state: "the state is the one after the call"
  abbrev pub node_shown_at : Node → ℕ → ℕ → ℕ
  node_shown_at stop n k = n
  node_shown_at (choice f c) n k = n
  node_shown_at (new r l) n k = n
  node_shown_at (call d) n zero = n
  node_shown_at (call d) n (suc j) = S.root d

  abbrev pub shown_node_of : Spot → ℕ
  shown_node_of p = node_shown_at (S.node p.node) p.node p.index

  -- the name whose value the state has for x: "uncopied formals valued as their arguments; where the called root is Stop, it has none of these names". "In a
  -- Stop's chain the unreleased names are held but not in the state."
  abbrev pub name_shown_at : Node → ℕ → ℕ → ℕ → Option ℕ
  name_shown_at stop n k x = none
  name_shown_at (choice f c) n k x = some x
  name_shown_at (new r l) n k x = some x
  name_shown_at (call d) n zero x = some x
  name_shown_at (call d) n (suc j) x =
      pick (is_stop_node (S.node (S.root d))) none
      (pick (member x (take j (S.formals d))) (some x) (passed (drop j (S.formals d)) (drop j (S.arguments n)) x))

  -- a name of no thread is public or none at all, and shows itself
  abbrev pub shown_name : (ℕ → Spot) → ℕ → Option ℕ
  shown_name at x =
      let p = at (S.thread_of_name x) in
      pick (ltb (S.thread_of_name x) S.threads) (name_shown_at (S.node p.node) p.node p.index x) (some x)

  unfoldable pub state_shown : ℕ → Configuration → State
  state_shown counter c =
      record { node = λ t. shown_node_of (c.at t); value = λ x. value_of c.value (shown_name c.at x); counter = counter }
