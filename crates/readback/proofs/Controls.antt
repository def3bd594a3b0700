-- How many control places a node has: they end where those of the next node start.
use mathlib.Core.Path.{◌≡◌}
use mathlib.Core.List.{List}
use Prim.Native.Nat.{ℕ, ◌+◌, ◌≤◌, ◌<◌}
use native.Mathlib.Omega.{arith}
use Rattle.lists.specs.Lists.{word}
use Rattle.scheme.specs.Words.{nodes}
use Rattle.scheme.specs.Scheme.{scheme}
use Rattle.places.specs.Places.{controls}
use Rattle.places.specs.Plan.{nodes_in, Laid}
use Rattle.places.proofs.Controls.{control-goes-on, control-last}
use Rattle.places.proofs.Plans.{node-is}

module _ (w index : List ℕ) (L : Laid w index) (n : ℕ) (h : n < nodes w) where
  pub controls-next : word (nodes_in index) (n + 1) ≡ word (nodes_in index) n + controls (scheme w) n
  controls-next = omega (arith, node-is w index L (n + 1) (omega arith), node-is w index L n (omega arith), control-goes-on w n)

  -- all of them are places
  pub controls-small : word (nodes_in index) n + controls (scheme w) n ≤ 65535
  controls-small = omega (arith, node-is w index L n (omega arith), control-last w L.accepted n h)
