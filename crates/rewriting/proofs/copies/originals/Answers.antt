use mathlib.Core.Path.{◌≡◌}
use mathlib.Core.List.{List}
use Prim.Native.Nat.{ℕ, ◌+◌, ◌-◌}
use native.Mathlib.Omega.{arith}
use lib.ListN.{take, drop}
use lib.Seq.{slice}
use Rattle.lists.proofs.Slices.{lent-part}
use Rattle.rewriting.proofs.copies.originals.Goals as goal

part : (l : List ℕ) (a k : ℕ) → take (a + k - a) (drop a l) ≡ slice a (a + k) l
part l a k = let z : a + k - a ≡ k = omega arith in rw z (lent-part l a k)

pub returns-in-Names : goal.returns-in-Names
returns-in-Names c = rw c.in-Names.is (part c.args.list.now 256 c.args.copies.names)

pub returns-in-Nodes : goal.returns-in-Nodes
returns-in-Nodes c = rw c.in-Nodes.is (part c.args.list.now 512 c.args.copies.nodes)

pub returns-in-Branches : goal.returns-in-Branches
returns-in-Branches c = rw c.in-Branches.is (part c.args.list.now 768 c.args.copies.branches)

pub returns-in-Arguments : goal.returns-in-Arguments
returns-in-Arguments c = rw c.in-Arguments.is (part c.args.list.now 1024 c.args.copies.arguments)
